-- Two lists of entries and dumps that have one text are the same.
use Rattle.std.proofs.Common.{◌≡◌, ℕ, zero, suc, ◌<◌, Bool, true, false, nat_eq, List, [], ◌∷◌, ◌++◌, length, map, drop, slice_get, slice_set, Some, refl, sym, ap, ◌∙◌, subst, arith}
use Rattle.std.specs.List.{filter, flat_map}
use Rattle.std.proofs.lemmas.Bool.{eqb-true, eqb-false}
use Rattle.std.proofs.lemmas.List.{append-nil, length-set}
use Rattle.std.proofs.lemmas.Option.{slice_get_within}
use Rattle.tcmu_types.specs.Data.{DoneData}
use Rattle.tcmu_types.specs.Dumps.{DumpData}
use Rattle.tcmu_types.specs.Events.{EventData}
use Rattle.tcmu_model.specs.Device.{DeviceState, Device, opening_state}
use Rattle.tcmu_types.specs.Fields.{pieces}
use Rattle.tcmu_model.specs.Steps.{HandlerRelation, Makes, Step}
use Rattle.text_model.specs.ScenarioData.{DeviceLineData}
use Rattle.text_model.specs.Text.{answer_text}
use Rattle.tcmu_model.specs.Sound.{IsSound}
use Rattle.tcmu_types.specs.Lists.{Every}
use Rattle.tcmu_types.proofs.Everies.{every-weaker, every_at}
use Rattle.tcmu_types.proofs.Readings.{same_some}
use Rattle.tcmu_model.proofs.Runs.{sound_step}
use Rattle.text_model.specs.Journals.{Journaled, IsLegalEach}
use Rattle.text_model.specs.Printed.{Printed, AnEntry, ADump, OutsideLine, device_of, entries_in, NamesItsDevice}
use Rattle.text_model.proofs.PrintedJournals.{undumped, entries_again}
use Rattle.text_model.proofs.JournalSteps.{first_step}
use Rattle.tcmu_types.proofs.Places.{get_within, get_set, get_set_other}
use Rattle.text_laws.specs.Devices.{IsSpelledDevice}
use Rattle.text_laws.specs.Printed.{IsValue, IsListOf}
use Rattle.text_laws.specs.Replays.{OpenAs, IsJournalOf}
use Rattle.text_laws.specs.Readings.{AreNamed, AreAlike, HasOneReading, HasOneReadingOfAny}
use Rattle.text_laws.specs.Values.{IsEventValue}
use Rattle.text_laws.proofs.Asked.{HasAccepted}
use Rattle.text_laws.proofs.Asks.{AsksCommand}
use Rattle.text_laws.proofs.Apart.{behind_same}
use Rattle.text_laws.proofs.PrintValues.{all_values}
use Rattle.text_laws.proofs.Prints.{own_text, entries_journal, every_undumped, journal_list}
use Rattle.text_laws.proofs.Replays.{opened_count, accepted_none, journal_named, journal_asks}
use Rattle.text_laws.proofs.SameEntries.{entry_same, journaled_same}
use Rattle.text_laws.proofs.SameEvent.{same_event}
use Rattle.text_laws.proofs.Sets.{every_set}
use Rattle.text_laws.proofs.Spoken.{is_telling, told_lines, IsReadable, spoken_whole}
use Rattle.text_laws.proofs.Telling.{two_parts, devices_told, Tells, AllTell, lines_tell}
use Rattle.text_laws.proofs.WholeLines.{Named, told_device}

-- ---- entries

-- an entry of one text, made on devices in one state, is the same, and leaves them in one state
step_same : (R Q : HandlerRelation) (qfull : ℕ) (d e m n : Device) (j f : Journaled) → d.state ≡ e.state → IsSound d.state → IsSound e.state → j.entry.device ≡ f.entry.device → j.entry.event ≡ f.entry.event
    → answer_text qfull j.entry.event j.entry.answer ≡ answer_text qfull j.entry.event f.entry.answer → Step R d j.entry m → Step Q e f.entry n
    → m.state.log ≡ d.state.log ++ j.completions → n.state.log ≡ e.state.log ++ f.completions → (j ≡ f) × (m.state ≡ n.state)
step_same R Q qfull d e m n j f same sound sound' device event text s t log log' =
    let makes : Makes Q e j.entry.event f.entry.answer n = subst (λ (x : EventData). Makes Q e x f.entry.answer n) (sym event) t.makes in
    let one = same_event R Q d e m n qfull j.entry.event j.entry.answer f.entry.answer same sound sound' text s.makes makes in
    let before = ap (λ (x : DeviceState). x.log) same in
    let after = ap (λ (x : DeviceState). x.log) one.1 in
    let logged : j.entry.logged ≡ f.entry.logged = omega (arith, s.logged, t.logged, ap (λ (l : List DoneData). length l) before, ap (λ (l : List DoneData). length l) after) in
    let done : j.completions ≡ f.completions = behind_same e.state.log j.completions f.completions (ap (λ (l : List DoneData). l ++ j.completions) (sym before) ∙ sym log ∙ after ∙ log') in
    (journaled_same j f (entry_same j.entry f.entry device event one.0 logged) done, one.1)

-- ---- devices

alike_set : (ds es : List Device) (k : ℕ) (d e m n : Device) → AreAlike ds es → slice_get ds k ≡ Some d → slice_get es k ≡ Some e → m.state ≡ n.state → AreAlike (slice_set ds k m) (slice_set es k n)
alike_set ds es k d e m n alike p q same = λ at x y u v. go at x y (nat_eq k at) refl u v
  where
    go : (at : ℕ) (x y : Device) (b : Bool) → nat_eq k at ≡ b → slice_get (slice_set ds k m) at ≡ Some x → slice_get (slice_set es k n) at ≡ Some y → x.state ≡ y.state
    go at x y true is u v =
        let here : x ≡ m = same_some x m (sym u ∙ ap (slice_get (slice_set ds k m)) (sym (eqb-true _ _ is)) ∙ get_set ds k d m p) in
        let there : y ≡ n = same_some y n (sym v ∙ ap (slice_get (slice_set es k n)) (sym (eqb-true _ _ is)) ∙ get_set es k e n q) in
        ap (λ (z : Device). z.state) here ∙ same ∙ sym (ap (λ (z : Device). z.state) there)
    go at x y false is u v =
        alike at x y (sym (get_set_other ds k at m (eqb-false _ _ is)) ∙ u) (sym (get_set_other es k at n (eqb-false _ _ is)) ∙ v)

pub opened_alike : (ls : List DeviceLineData) (ds es : List Device) → OpenAs ls ds → OpenAs ls es → AreAlike ds es
opened_alike [] [] es h k at d e p q = absurd (cc)
opened_alike [] (x ∷ ds) es h k at d e p q = absurd h
opened_alike (l ∷ ls) [] es h k at d e p q = absurd h
opened_alike (l ∷ ls) (x ∷ ds) [] h k at d e p q = absurd k
opened_alike (l ∷ ls) (x ∷ ds) (y ∷ es) h k zero d e p q =
    let one : x.state ≡ opening_state l.settings = ap (λ (z : Device). z.state) h.0.1 in
    let two : y.state ≡ opening_state l.settings = ap (λ (z : Device). z.state) k.0.1 in
    sym (ap (λ (z : Device). z.state) (same_some x d p)) ∙ one ∙ sym two ∙ ap (λ (z : Device). z.state) (same_some y e q)
opened_alike (l ∷ ls) (x ∷ ds) (y ∷ es) h k (suc at) d e p q = opened_alike ls ds es h.1 k.1 at d e p q

abbrev pub AreSound : List Device → Type 0
AreSound ds = Every (λ d. IsSound d.state) ds

pub opened_sound : (ls : List DeviceLineData) (ds : List Device) → Every IsSpelledDevice ls → OpenAs ls ds → AreSound ds
opened_sound ls ds sp h = every-weaker (HasAccepted 0) (λ d. IsSound d.state) ds (λ d k. k.sound) (accepted_none ls ds sp h)

-- ---- journals

-- devices from which a journal goes on to its end
pub record ReadsOn (R : HandlerRelation) (ls : List DeviceLineData) (ds : List Device) (js : List Journaled) (ends : List Device) : Type 0 where
  pub count : length ds ≡ length ls
  pub last : length ends ≡ length ls
  pub sound : AreSound ds
  pub within : Every (λ j. j.entry.device < length ls) js
  pub legal : IsLegalEach R ds js ends

-- the device of the first entry, and how the journal goes on behind it
record Behind (R : HandlerRelation) (ls : List DeviceLineData) (ds : List Device) (j : Journaled) (js : List Journaled) (ends : List Device) : Type 0 where
  device : Device
  found : slice_get ds j.entry.device ≡ Some device
  mid : Device
  step : Step R device j.entry mid
  log : mid.state.log ≡ device.state.log ++ j.completions
  rest : ReadsOn R ls (slice_set ds j.entry.device mid) js ends

behind : (R : HandlerRelation) (ls : List DeviceLineData) (ds : List Device) (j : Journaled) (js : List Journaled) (ends : List Device) → ReadsOn R ls ds (j ∷ js) ends → Behind R ls ds j js ends
behind R ls ds j js ends h =
    let at = h.within.0 in
    let first = get_within ds j.entry.device (omega (arith, at, h.count)) in
    let last = get_within ends j.entry.device (omega (arith, at, h.last)) in
    let step = first_step R ds first.0 last.0 j js ends first.1 last.1 h.legal in
    record {
      device = first.0;
      found = first.1;
      mid = step.mid;
      step = step.step;
      log = step.log;
      rest = record {
        count = length-set ds j.entry.device step.mid ∙ h.count;
        last = h.last;
        sound = every_set (λ d. IsSound d.state) ds j.entry.device step.mid h.sound (sound_step R first.0 step.mid j.entry (every_at (λ d. IsSound d.state) ds j.entry.device first.0 h.sound first.1) step.step);
        within = h.within.1;
        legal = step.rest;
      };
    }

-- entry for entry, both tell the same
abbrev pub EntriesTell : List DeviceLineData → List Journaled → List Journaled → Type 0
EntriesTell ls [] [] = Unit {0}
EntriesTell ls [] (f ∷ fs) = ⊥
EntriesTell ls (j ∷ js) [] = ⊥
EntriesTell ls (j ∷ js) (f ∷ fs) = Tells ls j f × EntriesTell ls js fs

pub journals_same : (R Q : HandlerRelation) (ls : List DeviceLineData) (ds es : List Device) (js fs : List Journaled) (ends lasts : List Device) → AreAlike ds es
    → ReadsOn R ls ds js ends → ReadsOn Q ls es fs lasts → EntriesTell ls js fs → (js ≡ fs) × AreAlike ends lasts
journals_same R Q ls ds es [] [] ends lasts alike h k e = (
  refl,
  λ at x y p q.
      let a = get_within ds at (omega (arith, slice_get_within ends at x p, h.count, h.last)) in
      let b = get_within es at (omega (arith, slice_get_within lasts at y q, k.count, k.last)) in
      ap (λ (z : Device). z.state) (h.legal at a.0 x a.1 p) ∙ alike at a.0 b.0 a.1 b.1 ∙ sym (ap (λ (z : Device). z.state) (k.legal at b.0 y b.1 q)),
)
journals_same R Q ls ds es [] (f ∷ fs) ends lasts alike h k e = absurd e
journals_same R Q ls ds es (j ∷ js) [] ends lasts alike h k e = absurd e
journals_same R Q ls ds es (j ∷ js) (f ∷ fs) ends lasts alike h k e =
    let tells = e.0 in
    let a = behind R ls ds j js ends h in
    let b = behind Q ls es f fs lasts k in
    let b_found : slice_get es j.entry.device ≡ Some b.device = ap (slice_get es) tells.device ∙ b.found in
    let same = alike j.entry.device a.device b.device a.found b_found in
    let one = step_same R Q tells.line.settings.qfull a.device b.device a.mid b.mid j f same (every_at (λ d. IsSound d.state) ds j.entry.device a.device h.sound a.found) (every_at (λ d. IsSound d.state) es f.entry.device b.device k.sound b.found)
    tells.device tells.event tells.answer a.step b.step a.log b.log in
    let later = alike_set ds es j.entry.device a.device b.device a.mid b.mid alike a.found b_found one.1 in
    let goes = subst (λ (n : ℕ). ReadsOn Q ls (slice_set es n b.mid) fs lasts) (sym tells.device) b.rest in
    let rest = journals_same R Q ls (slice_set ds j.entry.device a.mid) (slice_set es j.entry.device b.mid) js fs ends lasts later a.rest goes e.1 in
    (ap (λ (x : Journaled). x ∷ js) one.0 ∙ ap (λ (xs : List Journaled). f ∷ xs) rest.0, rest.1)

-- ---- dumps between the entries

entries_tell : (ls : List DeviceLineData) (ps qs : List Printed) → AllTell ls ps qs → EntriesTell ls (entries_in ps) (entries_in qs)
entries_tell ls [] [] e = tt
entries_tell ls [] (q ∷ qs) e = absurd e
entries_tell ls (p ∷ ps) [] e = absurd e
entries_tell ls (AnEntry j ∷ ps) (AnEntry f ∷ qs) e = (e.0, entries_tell ls ps qs e.1)
entries_tell ls (AnEntry j ∷ ps) (ADump to d ∷ qs) e = absurd e.0
entries_tell ls (ADump at d ∷ ps) (AnEntry f ∷ qs) e = absurd e.0
entries_tell ls (ADump at d ∷ ps) (ADump to c ∷ qs) e = entries_tell ls ps qs e.1
entries_tell ls (OutsideLine at t ∷ ps) (OutsideLine to u ∷ qs) e = entries_tell ls ps qs e.1
entries_tell ls (AnEntry j ∷ ps) (OutsideLine to u ∷ qs) e = absurd e.0
entries_tell ls (ADump at d ∷ ps) (OutsideLine to u ∷ qs) e = absurd e.0
entries_tell ls (OutsideLine at t ∷ ps) (AnEntry f ∷ qs) e = absurd e.0
entries_tell ls (OutsideLine at t ∷ ps) (ADump to c ∷ qs) e = absurd e.0

abbrev first_entry : Journaled → List Journaled → Journaled
first_entry j [] = j
first_entry j (f ∷ fs) = f

-- lists that tell the same are the same where their entries are
prints_same : (ls : List DeviceLineData) (ps qs : List Printed) → AllTell ls ps qs → entries_in ps ≡ entries_in qs → ps ≡ qs
prints_same ls [] [] e same = refl
prints_same ls [] (q ∷ qs) e same = absurd e
prints_same ls (p ∷ ps) [] e same = absurd e
prints_same ls (AnEntry j ∷ ps) (AnEntry f ∷ qs) e same =
    ap (λ (x : Journaled). AnEntry x ∷ ps) (ap (first_entry j) same)
    ∙ ap (λ (xs : List Printed). AnEntry f ∷ xs) (prints_same ls ps qs e.1 (ap (λ (xs : List Journaled). drop 1 xs) same))
prints_same ls (AnEntry j ∷ ps) (ADump to d ∷ qs) e same = absurd e.0
prints_same ls (ADump at d ∷ ps) (AnEntry f ∷ qs) e same = absurd e.0
prints_same ls (ADump at d ∷ ps) (ADump to c ∷ qs) e same =
    ap (λ (n : ℕ). ADump n d ∷ ps) e.0.0 ∙ ap (λ (x : DumpData). ADump to x ∷ ps) e.0.1 ∙ ap (λ (xs : List Printed). ADump to c ∷ xs) (prints_same ls ps qs e.1 same)
prints_same ls (OutsideLine at t ∷ ps) (OutsideLine to u ∷ qs) e same =
    ap (λ (n : ℕ). OutsideLine n t ∷ ps) e.0.0 ∙ ap (λ (x : List ℕ). OutsideLine to x ∷ ps) e.0.1 ∙ ap (λ (xs : List Printed). OutsideLine to u ∷ xs) (prints_same ls ps qs e.1 same)
prints_same ls (AnEntry j ∷ ps) (OutsideLine to u ∷ qs) e same = absurd e.0
prints_same ls (ADump at d ∷ ps) (OutsideLine to u ∷ qs) e same = absurd e.0
prints_same ls (OutsideLine at t ∷ ps) (AnEntry f ∷ qs) e same = absurd e.0
prints_same ls (OutsideLine at t ∷ ps) (ADump to c ∷ qs) e same = absurd e.0

-- ---- texts

-- what holds of the entries of a list holds of each that is printed
readable : (ls : List DeviceLineData) (ps : List Printed) → Every (λ p. device_of p < length ls) ps → Every (NamesItsDevice ls) ps → Every IsValue ps → Every (λ j. AsksCommand j.entry.event) (entries_in ps) → Every (λ j. Every Named j.completions) (entries_in ps) → Every (IsReadable ls) ps
readable ls [] h o v a m = tt
readable ls (AnEntry j ∷ ps) h o v a m = (record { device = h.0; outside = o.0; asks = a.0; value = v.0; named = m.0 }, readable ls ps h.1 o.1 v.1 a.1 m.1)
readable ls (ADump at d ∷ ps) h o v a m = (record { device = h.0; outside = o.0; asks = tt; value = v.0; named = tt }, readable ls ps h.1 o.1 v.1 a m)
readable ls (OutsideLine at t ∷ ps) h o v a m = (record { device = h.0; outside = o.0; asks = tt; value = v.0; named = tt }, readable ls ps h.1 o.1 v.1 a m)

all_readable : (R : HandlerRelation) (ls : List DeviceLineData) (opened : List Device) (ps : List Printed) (ends : List Device) (text : List ℕ) → Every IsValue ps → IsListOf R ls opened ps ends text → Every (IsReadable ls) ps
all_readable R ls opened ps ends text values is =
    let journal = entries_journal R ls opened ps ends text is in
    readable ls ps is.devices is.outside values (journal_asks R ls opened (entries_in ps) ends (own_text ls ps ends) journal) (journal_named R ls opened (entries_in ps) ends (own_text ls ps ends) journal)

goes_on : (R : HandlerRelation) (ls : List DeviceLineData) (opened : List Device) (ps : List Printed) (ends : List Device) (text : List ℕ) → Every IsSpelledDevice ls → IsListOf R ls opened ps ends text → ReadsOn R ls opened (entries_in ps) ends
goes_on R ls opened ps ends text sp is =
    let journal = entries_journal R ls opened ps ends text is in
    record { count = opened_count ls opened is.opens; last = is.count; sound = opened_sound ls opened sp is.opens; within = journal.devices; legal = journal.legal }

-- lists of events and dumps of the code
pub one_list : (R Q : HandlerRelation) → HasOneReadingOfAny R Q
one_list R Q ls ks opened started ps qs ends lasts text named named' values values' is it =
    let spoken = spoken_whole ls ps ends named.spelled (all_readable R ls opened ps ends text values is) in
    let spoken' = spoken_whole ks qs lasts named'.spelled (all_readable Q ks started qs lasts text values' it) in
    let whole : (map told_device ls ++ flat_map (told_lines ls) ps) ++ [] ++ [] ≡ (map told_device ks ++ flat_map (told_lines ks) qs) ++ [] ++ [] =
    sym spoken ∙ ap (λ (t : List ℕ). filter is_telling (pieces 10 (t ++ []))) (sym is.whole ∙ it.whole) ∙ spoken' in
    let lists : map told_device ls ++ flat_map (told_lines ls) ps ≡ map told_device ks ++ flat_map (told_lines ks) qs =
    sym (bare (map told_device ls ++ flat_map (told_lines ls) ps)) ∙ whole ∙ bare (map told_device ks ++ flat_map (told_lines ks) qs) in
    let parts = two_parts ls ks ps qs is.outside it.outside lists in
    let devices : ls ≡ ks = devices_told ls ks named.spelled named'.spelled parts.0 in
    let it_is : IsListOf Q ls started qs lasts text = subst (λ (x : List DeviceLineData). IsListOf Q x started qs lasts text) (sym devices) it in
    let told_is : flat_map (told_lines ls) ps ≡ flat_map (told_lines ls) qs = parts.1 ∙ ap (λ (x : List DeviceLineData). flat_map (told_lines x) qs) (sym devices) in
    let tell = lines_tell ls ps qs named.names named.spelled (all_readable R ls opened ps ends text values is) (all_readable Q ls started qs lasts text values' it_is) told_is in
    let rest = journals_same R Q ls opened started (entries_in ps) (entries_in qs) ends lasts (opened_alike ls opened started is.opens it_is.opens) (goes_on R ls opened ps ends text named.spelled is) (goes_on Q ls started qs lasts text named.spelled it_is) (entries_tell ls ps qs tell) in
    record { devices = devices; printed = prints_same ls ps qs tell rest.0; states = rest.1 }
  where
    bare : (xs : List (List ℕ)) → xs ++ [] ++ [] ≡ xs
    bare xs = append-nil (xs ++ []) ∙ append-nil xs

-- lists whose dumps are pictures
pub one_reading : (R Q : HandlerRelation) → HasOneReading R Q
one_reading R Q ls ks opened started ps qs ends lasts text named named' values values' is it =
    one_list R Q ls ks opened started ps qs ends lasts text named named' (all_values R ls opened ps ends text named.spelled values is) (all_values Q ks started qs lasts text named'.spelled values' it) is.list it.list

-- journals without dumps
pub one_journal : (R Q : HandlerRelation) (ls ks : List DeviceLineData) (opened started : List Device) (js fs : List Journaled) (ends lasts : List Device) (text : List ℕ) → AreNamed ls → AreNamed ks
    → Every (λ j. IsEventValue j.entry.event) js → Every (λ j. IsEventValue j.entry.event) fs → IsJournalOf R ls opened js ends text → IsJournalOf Q ks started fs lasts text → (ls ≡ ks) × (js ≡ fs)
one_journal R Q ls ks opened started js fs ends lasts text named named' values values' is it =
    let one = one_list R Q ls ks opened started (undumped js) (undumped fs) ends lasts text named named' (every_undumped IsValue js values) (every_undumped IsValue fs values')
    (journal_list R ls opened js ends text is) (journal_list Q ks started fs lasts text it) in
    (one.devices, sym (entries_again js) ∙ ap entries_in one.printed ∙ entries_again fs)
