-- The law of replay over media in memory.
use Rattle.std.proofs.Common.{◌≡◌, inl, ℕ, List, [], ◌∷◌, length, Option, Some, None, Ok, refl, sym, ap, ◌∙◌, subst}
use Rattle.std.specs.Option.{option_map}
use Rattle.tcmu_types.specs.Events.{EntryData}
use Rattle.tcmu_types.specs.Reading.{each}
use Rattle.tcmu_model.specs.MediumState.{MediumState}
use Rattle.tcmu_model.specs.Device.{Device, opening}
use Rattle.scsi_model.specs.Medium.{memory_below, opened_medium}
use Rattle.text_model.specs.Config.{MediumData, InMemory, InFile}
use Rattle.text_model.specs.ScenarioData.{DeviceLineData, ScenarioData}
use Rattle.text_model.specs.Scenario.{scenario_limits, scenario_of}
use Rattle.scsi_model.specs.Scsi.{Serves}
use Rattle.region_model.specs.Picture.{picture_of}
use Rattle.text_model.specs.Printed.{entries_in}
use Rattle.text_model.specs.Several.{IsReplayOf}
use Rattle.tcmu_types.specs.Lists.{Every}
use Rattle.tcmu_types.proofs.Everies.{every-mapped, every-weaker}
use Rattle.tcmu_types.proofs.Readings.{same_some, same_ok, both, mapped}
use Rattle.text_model.proofs.PrintedJournals.{undumped, replays_alone}
use Rattle.text_model.proofs.ScenarioLaws.{scenario_is}
use Rattle.text_model.proofs.ServedLaws.{scenario_served}
use Rattle.text_model.specs.Journals.{Journaled, entries_of}
use Rattle.block_engine.specs.Determined.{LosesNothing}
use Rattle.text_laws.specs.Replays.{written, OpenAs, IsJournalOf}
use Rattle.text_laws.specs.Values.{IsEventValue}
use Rattle.text_laws.specs.InMemory.{memory_device, IsTextInMemory, IsOwnText, LawOfReplay, LawOfJournals, HasOneText, HasOneJournalInMemory}
use Rattle.text_laws.proofs.Asked.{IsWithinLines}
use Rattle.text_laws.proofs.Asks.{line_value}
use Rattle.text_laws.proofs.Carried.{spelled_read}
use Rattle.text_laws.proofs.OneReading.{one_journal}
use Rattle.text_laws.proofs.Replays.{read_back, replayed_again, scenario_again, replay_asked, replay_journal}
use Rattle.text_laws.proofs.Settled.{one_text}

-- ---- devices over memory

-- a device that a line opens, over a medium in memory
record OpensInMemory (l : DeviceLineData) (d : Device) : Type 0 where
  opens : (medium : MediumState) × (d ≡ opening l.settings l.name medium)
  keeps : LosesNothing d.medium

opens_one : (l : DeviceLineData) (d : Device) → memory_device l ≡ Some d → OpensInMemory l d
opens_one l d e = go l.config.kind e
  where
    go : (kind : MediumData) → ◌≡◌ {A = Option Device} (elim kind [ InMemory blocks ↦ Some (opening l.settings l.name (opened_medium blocks l.config.protected l.config.fails (memory_below blocks))) | InFile name ↦ None ]) (Some d) → OpensInMemory l d
    go (InMemory blocks) e =
        let medium = opened_medium blocks l.config.protected l.config.fails (memory_below blocks) in
        let keeps : LosesNothing medium = record { told = record { own = refl; store = refl; bytes = refl }; lossless = record { place = inl refl; lost = refl } } in
        let same = same_some (opening l.settings l.name medium) d e in
        record { opens = (medium, sym same); keeps = subst (λ (x : Device). LosesNothing x.medium) same keeps }
    go (InFile name) e = absurd (cc)

all_open : (ls : List DeviceLineData) (ds : List Device) → each memory_device ls ≡ Some ds → OpenAs ls ds × Every (λ d. LosesNothing d.medium) ds
all_open [] ds e = subst (λ (x : List Device). OpenAs [] x × Every (λ d. LosesNothing d.medium) x) (same_some [] ds e) (tt, tt)
all_open (l ∷ ls) ds e =
    let first = both (λ (y : Device). option_map (λ (ys : List Device). y ∷ ys) (each memory_device ls)) (memory_device l) ds e in
    let others = mapped (λ (ys : List Device). first.0 ∷ ys) (each memory_device ls) ds first.2 in
    let one = opens_one l first.0 first.1 in
    let rest = all_open ls others.0 others.1 in
    subst (λ (x : List Device). OpenAs (l ∷ ls) x × Every (λ d. LosesNothing d.medium) x) (sym others.2) ((one.opens, rest.0), (one.keeps, rest.1))

-- ---- the laws

pub has_one_text : HasOneText
has_one_text bytes t u r s read read' is it = go r (same_ok r s (sym read ∙ read')) is
  where
    go : (r : ScenarioData) → r ≡ s → IsTextInMemory r t → t ≡ u
    go r same is =
        let mine : IsTextInMemory s t = subst (λ (x : ScenarioData). IsTextInMemory x t) same is in
        let starts = all_open s.devices mine.opened mine.memory in
        let devices : it.opened ≡ mine.opened = same_some it.opened mine.opened (sym it.memory ∙ mine.memory) in
        let other = subst (λ (x : List Device). IsReplayOf Serves picture_of s.devices x s.lines u) devices it.replay in
        (one_text picture_of s.devices s.lines mine.opened t u starts.1 mine.replay other).text

-- the text of a scenario's replay is its own
own_text : (text : List ℕ) (t : ScenarioData) (opened : List Device) → scenario_of text ≡ Ok t → each memory_device t.devices ≡ Some opened → IsReplayOf Serves picture_of t.devices opened t.lines text → IsOwnText t text
own_text text t opened read memory replay =
    let is : IsTextInMemory t text = record { opened = opened; memory = memory; replay = replay } in
    record { is = is; only = λ own it. has_one_text text own text t t read read it is }

pub law_of_replay : LawOfReplay
law_of_replay bytes text s read is size few =
    let starts = all_open s.devices is.opened is.memory in
    let again = scenario_again Serves picture_of bytes text s is.opened read starts.0 is.replay size few in
    let t = written s.devices (entries_of (entries_in is.replay.printed)) in
    (t, again.0, own_text text t is.opened again.0 is.memory again.1)

pub law_of_journals : LawOfJournals
law_of_journals bytes text s js read is keeps =
    let back = read_back Serves scenario_limits s.devices is.opened js is.ends text (spelled_read scenario_limits bytes s read) is.journal keeps in
    let replay = replayed_again Serves picture_of s.devices is.opened js is.ends text is.journal is.done in
    (back, own_text text (written s.devices (entries_of js)) is.opened back is.memory replay)

-- the events of a scenario's replay are events of the code
are_values : (bytes text : List ℕ) (s : ScenarioData) → scenario_of bytes ≡ Ok s → (is : IsTextInMemory s text) → Every (λ j. IsEventValue j.entry.event) (entries_in is.replay.printed)
are_values bytes text s read is =
    let starts = all_open s.devices is.opened is.memory in
    let asked = replay_asked Serves picture_of bytes text s is.opened read starts.0 is.replay in
    let js = entries_in is.replay.printed in
    every-mapped (λ (j : Journaled). j.entry) (λ (e : EntryData). IsEventValue e.event) js (every-weaker (IsWithinLines (length s.devices)) (λ (e : EntryData). IsEventValue e.event) (entries_of js) (λ e h. line_value e.event h.event h.bytes) asked.entries)

-- what a scenario's replay prints is a journal
record IsJournal (s : ScenarioData) (text : List ℕ) (is : IsTextInMemory s text) : Type 0 where
  journal : IsJournalOf Serves s.devices is.opened (entries_in is.replay.printed) is.replay.ends text
  alone : is.replay.printed ≡ undumped (entries_in is.replay.printed)

journal_of : (bytes text : List ℕ) (s : ScenarioData) → scenario_of bytes ≡ Ok s → (is : IsTextInMemory s text) → IsJournal s text is
journal_of bytes text s read is =
    let starts = all_open s.devices is.opened is.memory in
    let dumpless = (scenario_served scenario_limits bytes s read).no_dumps in
    record {
      journal = replay_journal Serves picture_of bytes text s is.opened read dumpless starts.0 is.replay;
      alone = replays_alone Serves is.opened is.replay.ends s.lines is.replay.printed dumpless is.replay.replays;
    }

pub has_one_journal : HasOneJournalInMemory
has_one_journal bytes others text s t read read' is it =
    let first = scenario_is scenario_limits bytes s read in
    let other = scenario_is scenario_limits others t read' in
    let one = journal_of bytes text s read is in
    let two = journal_of others text t read' it in
    let same = one_journal Serves Serves s.devices t.devices is.opened it.opened (entries_in is.replay.printed) (entries_in it.replay.printed) is.replay.ends it.replay.ends text
    (record { spelled = spelled_read scenario_limits bytes s read; names = first.names }) (record { spelled = spelled_read scenario_limits others t read'; names = other.names })
    (are_values bytes text s read is) (are_values others text t read' it) one.journal two.journal in
    (same.0, one.alone ∙ ap undumped same.1 ∙ sym two.alone)
