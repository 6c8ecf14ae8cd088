-- Texts of replays that are the same are of one journal.
use Rattle.std.proofs.Common.{◌≡◌, ◌∙◌, ℕ, List, length, Option, Ok, sym, ap}
use Rattle.tcmu_types.specs.Events.{EntryData}
use Rattle.tcmu_types.specs.Lists.{Every}
use Rattle.tcmu_types.proofs.Everies.{every-mapped, every-weaker}
use Rattle.edge.specs.Stores.{FilesState}
use Rattle.scsi_model.specs.Scsi.{Serves}
use Rattle.text_model.specs.ScenarioData.{ScenarioData}
use Rattle.text_model.specs.Scenario.{scenario_of, scenario_limits}
use Rattle.region_model.specs.Picture.{picture_of}
use Rattle.text_model.specs.Printed.{entries_in}
use Rattle.text_model.proofs.PrintedJournals.{undumped, replays_alone}
use Rattle.text_model.proofs.ScenarioLaws.{scenario_is}
use Rattle.text_model.proofs.ServedLaws.{scenario_served}
use Rattle.text_model.specs.Journals.{Journaled, entries_of}
use Rattle.text_laws.specs.Replays.{IsJournalOf}
use Rattle.text_laws.specs.Values.{IsEventValue}
use Rattle.text_laws.proofs.Asked.{IsWithinLines}
use Rattle.text_laws.proofs.Asks.{line_value}
use Rattle.text_laws.proofs.Carried.{spelled_read}
use Rattle.text_laws.proofs.OneReading.{one_journal}
use Rattle.text_laws.proofs.Replays.{replay_asked, replay_journal}
use Rattle.tcmu_top.specs.Laws.{HasOneJournal}
use Rattle.tcmu_top.specs.Top.{IsTextOf}
use Rattle.tcmu_top.proofs.Opened.{open_as}

-- the events of a scenario's replay are events of the code
are_values : (files : Option FilesState) (bytes text : List ℕ) (s : ScenarioData) → scenario_of bytes ≡ Ok s → (is : IsTextOf files s text) → Every (λ j. IsEventValue j.entry.event) (entries_in is.replay.printed)
are_values files bytes text s read is =
    let asked = replay_asked Serves picture_of bytes text s is.opened read (open_as files s.devices is.opened is.opens) is.replay in
    let js = entries_in is.replay.printed in
    every-mapped (λ (j : Journaled). j.entry) (λ (e : EntryData). IsEventValue e.event) js
    (every-weaker (IsWithinLines (length s.devices)) (λ (e : EntryData). IsEventValue e.event) (entries_of js) (λ e h. line_value e.event h.event h.bytes) asked.entries)

-- what a scenario's replay prints is a journal
record IsJournal (files : Option FilesState) (s : ScenarioData) (text : List ℕ) (is : IsTextOf files s text) : Type 0 where
  journal : IsJournalOf Serves s.devices is.opened (entries_in is.replay.printed) is.replay.ends text
  alone : is.replay.printed ≡ undumped (entries_in is.replay.printed)

journal_of : (files : Option FilesState) (bytes text : List ℕ) (s : ScenarioData) → scenario_of bytes ≡ Ok s → (is : IsTextOf files s text) → IsJournal files s text is
journal_of files bytes text s read is =
    let dumpless = (scenario_served scenario_limits bytes s read).no_dumps in
    record {
      journal = replay_journal Serves picture_of bytes text s is.opened read dumpless (open_as files s.devices is.opened is.opens) is.replay;
      alone = replays_alone Serves is.opened is.replay.ends s.lines is.replay.printed dumpless is.replay.replays;
    }

pub has_one_journal : HasOneJournal
has_one_journal files others bytes more text s t read read' is it =
    let one = journal_of files bytes text s read is in
    let two = journal_of others more text t read' it in
    let same = one_journal Serves Serves s.devices t.devices is.opened it.opened (entries_in is.replay.printed) (entries_in it.replay.printed) is.replay.ends it.replay.ends text
    (record { spelled = spelled_read scenario_limits bytes s read; names = (scenario_is scenario_limits bytes s read).names })
    (record { spelled = spelled_read scenario_limits more t read'; names = (scenario_is scenario_limits more t read').names })
    (are_values files bytes text s read is) (are_values others more text t read' it) one.journal two.journal in
    (same.0, one.alone ∙ ap undumped same.1 ∙ sym two.alone)
