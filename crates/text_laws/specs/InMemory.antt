-- The law of replay over media in memory, of journals without dumps.
use Rattle.std.specs.Prelude.{◌≡◌, ℕ, ◌≤◌, List, length, Option, Some, None, Ok}
use Rattle.tcmu_types.specs.Reading.{each}
use Rattle.tcmu_model.specs.Device.{Device}
use Rattle.scsi_model.specs.Medium.{memory_below, opened_medium}
use Rattle.tcmu_model.specs.Drain.{drain_event}
use Rattle.tcmu_types.specs.Lists.{Every}
use Rattle.text_model.specs.Config.{InMemory, InFile}
use Rattle.text_model.specs.ScenarioData.{DeviceLineData, opened_as, ScenarioData}
use Rattle.text_model.specs.Scenario.{scenario_limits, scenario_of}
use Rattle.scsi_model.specs.Scsi.{Serves}
use Rattle.region_model.specs.Picture.{picture_of}
use Rattle.text_model.specs.Printed.{entries_in}
use Rattle.text_model.specs.Several.{IsReplayOf}
use Rattle.text_model.specs.Journals.{Journaled, entries_of}
use Rattle.text_laws.specs.Replays.{written, IsJournalOf, KeepsLimits}

-- the device of a device line as it opens over memory, all of it zeros; none where the line names a file
abbrev pub memory_device : DeviceLineData → Option Device
memory_device l =
    elim (l.config.kind) [
      | InMemory blocks ↦ Some (opened_as l (opened_medium blocks l.config.protected l.config.fails (memory_below blocks)))
      | InFile name ↦ None
    ]

-- the text of a replay of a scenario over media in memory
pub record IsTextInMemory (s : ScenarioData) (text : List ℕ) : Type 0 where
  pub opened : List Device
  pub memory : each memory_device s.devices ≡ Some opened
  pub replay : IsReplayOf Serves picture_of s.devices opened s.lines text

-- the text is the one text of the scenario's own replay
pub record IsOwnText (s : ScenarioData) (text : List ℕ) : Type 0 where
  pub is : IsTextInMemory s text
  pub only : (own : List ℕ) → IsTextInMemory s own → own ≡ text

-- the text of a journal on devices over media in memory, which leaves them nothing to do, as a replay and as a live run do
pub record IsJournalText (ls : List DeviceLineData) (js : List Journaled) (text : List ℕ) : Type 0 where
  pub opened : List Device
  pub memory : each memory_device ls ≡ Some opened
  pub ends : List Device
  pub journal : IsJournalOf Serves ls opened js ends text
  pub done : Every (λ d. drain_event d.state ≡ None) ends

-- Every text of a replay of a scenario, where it has at most 4,194,304 bytes and the replay has at most 20,000 events, is a scenario,
-- and the text of that scenario's own replay is the same text.
abbrev pub LawOfReplay : Type 0
LawOfReplay =
    (bytes text : List ℕ) (s : ScenarioData)
    → scenario_of bytes ≡ Ok s → (is : IsTextInMemory s text) → length text ≤ 4194304 → length (entries_in is.replay.printed) ≤ 20000
    → (t : ScenarioData) × (scenario_of text ≡ Ok t) × IsOwnText t text

-- The same of every journal on the devices of a scenario, which leaves them nothing to do: where its text keeps the limits of
-- scenarios, it is the scenario of the journal's events, and the text of that scenario's own replay is the same text.
abbrev pub LawOfJournals : Type 0
LawOfJournals =
    (bytes text : List ℕ) (s : ScenarioData) (js : List Journaled)
    → scenario_of bytes ≡ Ok s → IsJournalText s.devices js text → KeepsLimits scenario_limits s.devices (entries_of js) text
    → (scenario_of text ≡ Ok (written s.devices (entries_of js))) × IsOwnText (written s.devices (entries_of js)) text

-- A scenario over media in memory has one text.
abbrev pub HasOneText : Type 0
HasOneText = (bytes t u : List ℕ) (r s : ScenarioData) → scenario_of bytes ≡ Ok r → scenario_of bytes ≡ Ok s → IsTextInMemory r t → IsTextInMemory s u → t ≡ u

-- Texts of scenarios' replays over media in memory that are the same are of the same devices, and print the same: the same entries, with
-- the same answers and the same completions.
abbrev pub HasOneJournalInMemory : Type 0
HasOneJournalInMemory =
    (bytes others text : List ℕ) (s t : ScenarioData)
    → scenario_of bytes ≡ Ok s → scenario_of others ≡ Ok t → (is : IsTextInMemory s text) → (it : IsTextInMemory t text)
    → (s.devices ≡ t.devices) × (is.replay.printed ≡ it.replay.printed)
