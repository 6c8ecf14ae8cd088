-- The law of replay: the text of a journal is a scenario, and a replay of that scenario has the same text.
use Rattle.std.specs.Prelude.{◌≡◌, ℕ, ◌<◌, ◌≤◌, List, [], ◌∷◌, ◌++◌, length, None, Ok}
use Rattle.std.specs.List.{flat_map}
use Rattle.tcmu_types.specs.Events.{EntryData}
use Rattle.tcmu_model.specs.MediumState.{MediumState}
use Rattle.tcmu_model.specs.Device.{Device}
use Rattle.tcmu_model.specs.Steps.{HandlerRelation}
use Rattle.tcmu_model.specs.Drain.{drain_event}
use Rattle.tcmu_types.specs.Lists.{Every}
use Rattle.text_model.specs.ScenarioData.{DeviceLineData, opened_as, ScenarioData}
use Rattle.text_model.specs.ScenarioRules.{IsScenarioWithin}
use Rattle.text_model.specs.Scenario.{scenario_within, scenario_of}
use Rattle.text_model.specs.Several.{ends_text, IsReplayOf}
use Rattle.text_model.specs.Text.{device_text}
use Rattle.text_model.specs.declared.limits.Limits.{Limits}
use Rattle.text_model.specs.Printed.{Picture, entries_in}
use Rattle.text_model.specs.Journals.{Journaled, entries_of, IsLegalEach, journaled_text}
use Rattle.text_model.specs.Replay.{lines_of}
use Rattle.text_laws.specs.Devices.{IsSpelledDevice}
use Rattle.text_laws.specs.Lines.{CarriesBytes}

-- ==== journals

-- the scenario of these devices and of the events of these entries
abbrev pub written : List DeviceLineData → List EntryData → ScenarioData
written ls es = record { devices = ls; lines = lines_of es }

-- each device is as its line opens it, over some medium
abbrev pub OpenAs : List DeviceLineData → List Device → Type 0
OpenAs [] [] = Unit {0}
OpenAs [] (d ∷ ds) = ⊥
OpenAs (l ∷ ls) [] = ⊥
OpenAs (l ∷ ls) (d ∷ ds) = ((medium : MediumState) × (d ≡ opened_as l medium)) × OpenAs ls ds

-- The text of a journal: the device lines, entries that are legal on each device from its opening to its end, and how many commands
-- are open on each at its end.
pub record IsJournalOf (R : HandlerRelation) (ls : List DeviceLineData) (opened : List Device) (js : List Journaled) (ends : List Device) (text : List ℕ) : Type 0 where
  pub opens : OpenAs ls opened
  pub count : length ends ≡ length ls
  pub devices : Every (λ j. j.entry.device < length ls) js
  pub legal : IsLegalEach R opened js ends
  pub whole : text ≡ flat_map device_text ls ++ flat_map (journaled_text ls) js ++ ends_text ls ends

-- The text of these entries keeps the limits of a reading: it is short enough, its events are within the limits, and what they carry are
-- bytes.
pub record KeepsLimits (limits : Limits) (ls : List DeviceLineData) (es : List EntryData) (text : List ℕ) : Type 0 where
  pub size : length text ≤ limits.bytes
  pub scenario : IsScenarioWithin limits (written ls es)
  pub bytes : Every (λ e. CarriesBytes e.event) es

-- ==== the laws, over any handler

-- The text of a journal of devices that have lines, where it keeps the limits of a reading, is read as the scenario of the journal's events.
abbrev pub IsReadBack : HandlerRelation → Type 0
IsReadBack R =
    (limits : Limits) (ls : List DeviceLineData) (opened : List Device) (js : List Journaled) (ends : List Device) (text : List ℕ)
    → Every IsSpelledDevice ls → IsJournalOf R ls opened js ends text → KeepsLimits limits ls (entries_of js) text
    → scenario_within limits text ≡ Ok (written ls (entries_of js))

-- The text of a journal that leaves its devices nothing to do is the text of a replay of the journal's events, which has no dumps.
abbrev pub IsReplayedAgain : HandlerRelation → Type 0
IsReplayedAgain R =
    (picture : Picture) (ls : List DeviceLineData) (opened : List Device) (js : List Journaled) (ends : List Device) (text : List ℕ)
    → IsJournalOf R ls opened js ends text → Every (λ d. drain_event d.state ≡ None) ends
    → IsReplayOf R picture ls opened (lines_of (entries_of js)) text

-- Every text of a replay of a scenario that is read, where it has at most 4,194,304 bytes and at most 20,000 events, is a scenario,
-- and it is a text of a replay of that scenario on the same devices.
abbrev pub IsScenarioAgain : HandlerRelation → Type 0
IsScenarioAgain R =
    (picture : Picture) (bytes text : List ℕ) (s : ScenarioData) (opened : List Device)
    → scenario_of bytes ≡ Ok s → OpenAs s.devices opened → (is : IsReplayOf R picture s.devices opened s.lines text)
    → length text ≤ 4194304 → length (entries_in is.printed) ≤ 20000
    → (scenario_of text ≡ Ok (written s.devices (entries_of (entries_in is.printed)))) × IsReplayOf R picture s.devices opened (lines_of (entries_of (entries_in is.printed))) text
