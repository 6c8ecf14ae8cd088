-- Lists of what is printed, and journals, which have entries alone.
use Rattle.std.proofs.Common.{ℕ, ◌<◌, List, [], ◌∷◌, ◌++◌, length, refl, sym, ap, ◌∙◌, subst}
use Rattle.std.specs.List.{flat_map}
use Rattle.tcmu_types.specs.Lists.{Every}
use Rattle.tcmu_model.specs.Device.{Device}
use Rattle.tcmu_model.specs.Steps.{HandlerRelation}
use Rattle.text_model.specs.Journals.{Journaled, IsLegalEach, journaled_text}
use Rattle.text_model.specs.Printed.{Printed, AnEntry, ADump, OutsideLine, device_of, entries_in, NamesItsDevice}
use Rattle.text_model.specs.ScenarioData.{DeviceLineData}
use Rattle.text_model.specs.Several.{ends_text}
use Rattle.text_model.specs.Text.{device_text}
use Rattle.text_model.proofs.PrintedJournals.{undumped, entries_again, text_undumped}
use Rattle.text_laws.specs.Printed.{IsListOf}
use Rattle.text_laws.specs.Replays.{IsJournalOf}

-- ---- the entries of a list

-- what holds of each that is printed holds of the entries
every_entry : (P : Printed → Type 0) (ps : List Printed) → Every P ps → Every (λ j. P (AnEntry j)) (entries_in ps)
every_entry P [] h = tt
every_entry P (AnEntry j ∷ ps) h = (h.0, every_entry P ps h.1)
every_entry P (ADump at dump ∷ ps) h = every_entry P ps h.1
every_entry P (OutsideLine at text ∷ ps) h = every_entry P ps h.1

-- they are a journal, with a text of their own
abbrev pub own_text : List DeviceLineData → List Printed → List Device → List ℕ
own_text ls ps ends = flat_map device_text ls ++ flat_map (journaled_text ls) (entries_in ps) ++ ends_text ls ends

pub entries_journal : (R : HandlerRelation) (ls : List DeviceLineData) (opened : List Device) (ps : List Printed) (ends : List Device) (text : List ℕ) → IsListOf R ls opened ps ends text → IsJournalOf R ls opened (entries_in ps) ends (own_text ls ps ends)
entries_journal R ls opened ps ends text is =
    record { opens = is.opens; count = is.count; devices = every_entry (λ p. device_of p < length ls) ps is.devices; legal = is.legal; whole = refl }

-- ---- a journal as a list without dumps

pub every_undumped : (P : Printed → Type 0) (js : List Journaled) → Every (λ j. P (AnEntry j)) js → Every P (undumped js)
every_undumped P [] h = tt
every_undumped P (j ∷ js) h = (h.0, every_undumped P js h.1)

none_outside : (ls : List DeviceLineData) (js : List Journaled) → Every (λ j. NamesItsDevice ls (AnEntry j)) js
none_outside ls [] = tt
none_outside ls (j ∷ js) = (tt, none_outside ls js)

pub journal_list : (R : HandlerRelation) (ls : List DeviceLineData) (opened : List Device) (js : List Journaled) (ends : List Device) (text : List ℕ) → IsJournalOf R ls opened js ends text → IsListOf R ls opened (undumped js) ends text
journal_list R ls opened js ends text is =
    record {
      opens = is.opens;
      count = is.count;
      devices = every_undumped (λ p. device_of p < length ls) js is.devices;
      outside = every_undumped (NamesItsDevice ls) js (none_outside ls js);
      legal = subst (λ (xs : List Journaled). IsLegalEach R opened xs ends) (sym (entries_again js)) is.legal;
      whole = is.whole ∙ ap (λ (t : List ℕ). flat_map device_text ls ++ t ++ ends_text ls ends) (sym (text_undumped ls js));
    }
