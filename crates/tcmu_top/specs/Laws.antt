-- Laws of what a replay and a load write: the texts over media in memory and over files, the completions of a journal, and the line of a load.
use Rattle.std.specs.Prelude.{◌≡◌, ℕ, ◌+◌, ◌<◌, Bool, true, false, List, [], ◌∷◌, ◌++◌, length, map, Option, Some, is_some, Ok, slice_get}
use Rattle.std.specs.List.{filter, flat_map, count_by}
use Rattle.tcmu_types.specs.Data.{CommandData, ReplyData, DoneData}
use Rattle.tcmu_types.specs.Events.{AnswerData}
use Rattle.tcmu_types.specs.Events as ev
use Rattle.tcmu_types.specs.declared.answer.Submit.TheVariants as submit
use Rattle.tcmu_types.specs.declared.answer.Handle.TheVariants as handle
use Rattle.tcmu_model.specs.MediumState.{Span, MediumState}
use Rattle.tcmu_model.specs.Steps.{HandlerRelation}
use Rattle.scsi_model.specs.ReadsLost.{ServesKnown}
use Rattle.scsi_model.specs.Runs.{SameBut}
use Rattle.scsi_model.specs.Scsi.{Serves}
use Rattle.edge.specs.Stores.{Content, Place, at_home, FilesState}
use Rattle.load_run.specs.Loading.{IsLoadText}
use Rattle.tcmu_model.specs.Device.{Device}
use Rattle.text_model.specs.Config.{MediumData, InMemory, InFile}
use Rattle.text_model.specs.Printed.{entries_in}
use Rattle.text_model.specs.ScenarioData.{DeviceLineData, ScenarioData}
use Rattle.text_model.specs.Scenario.{scenario_of}
use Rattle.text_model.specs.Several.{IsReplayOf}
use Rattle.region_model.specs.Picture.{picture_of}
use Rattle.tcmu_model.specs.Sound.{open_count, times_logged, times_open}
use Rattle.tcmu_model.specs.Journals.{WasAccepted, IsExplained, IsExplainedAt, WasAsked}
use Rattle.text_model.specs.Journals.{Journaled, is_of, entries_of}
use Rattle.tcmu_types.specs.Numbers.{Differ}
use Rattle.tcmu_types.specs.Lists.{Every}
use Rattle.text_laws.specs.InMemory as memory
use Rattle.tcmu_top.specs.Opened.{EachFile, SameOthers, SameFiles, KeptFiles}
use Rattle.tcmu_top.specs.Top.{IsTextOf}

-- ==== texts over media in memory

abbrev pub LiesInMemory : MediumData → Type 0
LiesInMemory (InMemory blocks) = Unit {0}
LiesInMemory (InFile name) = ⊥

abbrev pub LieInMemory : List DeviceLineData → Type 0
LieInMemory ls = Every (λ l. LiesInMemory l.config.kind) ls

-- Where no device line names a file, the texts of a scenario are those of which the law of replay speaks.
abbrev pub TextsAgree : Type 0
TextsAgree =
    (files : Option FilesState) (s : ScenarioData) (text : List ℕ) → LieInMemory s.devices
    → (IsTextOf files s text → memory.IsTextInMemory s text) × (memory.IsTextInMemory s text → IsTextOf files s text)

-- ==== texts over files whose stores tell which calls fail

-- where the file of a device line stands, its store tells which of its calls fail
abbrev pub TellsFails : FilesState → MediumData → Type 0
TellsFails f (InMemory blocks) = Unit {0}
TellsFails f (InFile name) = (content : Content) → f.places name ≡ at_home content → is_some content.calls.fails ≡ true

abbrev pub TellFails : FilesState → List DeviceLineData → Type 0
TellFails f ls = Every (λ l. TellsFails f l.config.kind) ls

-- A text is known: it is that of a replay on these devices none of whose requests reads or compares a byte that is lost.
abbrev pub IsKnown : (files : Option FilesState) (s : ScenarioData) (text : List ℕ) → IsTextOf files s text → Type 0
IsKnown files s text is = IsReplayOf ServesKnown picture_of s.devices is.opened s.lines text

-- Over such files a scenario that has a known text has no other, whichever calls fail: of the stores, and of those that its device lines list.
abbrev pub HasOneKnownText : Type 0
HasOneKnownText =
    (f : FilesState) (s : ScenarioData) (t u : List ℕ)
    → TellFails f s.devices → (is : IsTextOf (Some f) s t) → IsKnown (Some f) s t is → IsTextOf (Some f) s u → t ≡ u

-- two contents with the same calls and syncs, whose bytes are the same outside of a range
pub record SameContentBut (lost : Span) (a b : Content) : Type 0 where
  pub bytes : SameBut lost a.bytes b.bytes
  pub calls : b.calls ≡ a.calls
  pub syncs : b.syncs ≡ a.syncs

-- such contents stand at two places
abbrev pub SamePlaceBut : Span → Place → Place → Type 0
SamePlaceBut lost p q = (a b : Content) × (p ≡ at_home a) × (q ≡ at_home b) × SameContentBut lost a b

-- The file of each device line is the same outside of the range that its device's medium has lost at the end, and each other file is the same.
-- As many fetches were made.
pub record SameFilesBut (ls : List DeviceLineData) (ends : List Device) (f f' : FilesState) : Type 0 where
  pub named : EachFile ls (λ at name. (d : Device) → slice_get ends at ≡ Some d → SamePlaceBut d.medium.below.lost (f.places name) (f'.places name))
  pub others : SameOthers ls f f'
  pub fails : f'.fails ≡ f.fails
  pub fetches : f'.fetches ≡ f.fetches

-- And all its replays end alike, and leave the same files outside of what is lost at the end.
abbrev pub LeavesTheKnownFiles : Type 0
LeavesTheKnownFiles =
    (f g h : FilesState) (s : ScenarioData) (t u : List ℕ)
    → TellFails f s.devices → (is : IsTextOf (Some f) s t) → IsKnown (Some f) s t is → (it : IsTextOf (Some f) s u)
    → KeptFiles s.devices is.replay.ends (Some f) (Some g) → KeptFiles s.devices it.replay.ends (Some f) (Some h)
    → (is.replay.ends ≡ it.replay.ends) × SameFilesBut s.devices is.replay.ends g h

-- ==== texts over files whose stores list no failing call

-- where the file of a device line stands, its store lists none
abbrev pub ListsNone : FilesState → MediumData → Type 0
ListsNone f (InMemory blocks) = Unit {0}
ListsNone f (InFile name) = (content : Content) → f.places name ≡ at_home content → content.calls.fails ≡ Some []

abbrev pub ListNone : FilesState → List DeviceLineData → Type 0
ListNone f ls = Every (λ l. ListsNone f l.config.kind) ls

-- Over such files every text of a scenario is known, whichever calls of their own its device lines list.
abbrev pub AreKnown : Type 0
AreKnown = (f : FilesState) (s : ScenarioData) (t : List ℕ) → ListNone f s.devices → (is : IsTextOf (Some f) s t) → IsKnown (Some f) s t is

-- And all its replays leave the same files.
abbrev pub LeavesTheSameFiles : Type 0
LeavesTheSameFiles =
    (f g h : FilesState) (bytes t u : List ℕ) (s : ScenarioData)
    → scenario_of bytes ≡ Ok s → ListNone f s.devices → (is : IsTextOf (Some f) s t) → (it : IsTextOf (Some f) s u)
    → KeptFiles s.devices is.replay.ends (Some f) (Some g) → KeptFiles s.devices it.replay.ends (Some f) (Some h)
    → SameFiles g h × (h.fetches ≡ g.fetches)

-- ==== texts over any media

-- Texts of scenarios' replays that are the same, whatever the files, are of the same devices, and print the same: the same entries, with the
-- same answers and the same completions.
abbrev pub HasOneJournal : Type 0
HasOneJournal =
    (files others : Option FilesState) (bytes more text : List ℕ) (s t : ScenarioData)
    → scenario_of bytes ≡ Ok s → scenario_of more ≡ Ok t → (is : IsTextOf files s text) → (it : IsTextOf others t text)
    → (s.devices ≡ t.devices) × (is.replay.printed ≡ it.replay.printed)

-- ==== completions

-- the completions that these entries logged
abbrev pub completions_of : List Journaled → List DoneData
completions_of js = flat_map (λ j. j.completions) js

-- whether this answer accepts a command
abbrev pub accepts : AnswerData → Bool
accepts (ev.Submitted (submit.Queued serial)) = true
accepts (ev.Submitted (submit.Delayed serial)) = true
accepts answer = false

-- the handler of this serial's command was asked for just what its initiator sent, at the device's name and medium, and gave this reply
abbrev pub WasServed : HandlerRelation → DeviceLineData → List Journaled → ℕ → ReplyData → Type 0
WasServed R l before serial reply = (medium after : MediumState) × WasAsked R (entries_of before) l.name medium serial reply after

-- What the completions of a device owe to its journal: this is its line, these are its entries, and it ends so.
pub record CompletesOnce (R : HandlerRelation) (l : DeviceLineData) (js : List Journaled) (d : Device) : Type 0 where
  -- they are all that the device logged
  pub logged : d.state.log ≡ completions_of js
  -- no serial is completed twice
  pub differ : Differ (map (λ e. e.serial) (completions_of js))
  -- each completion is of a command that was accepted, and carries its own handler's reply or a fixed status
  pub explained : Every (IsExplained (entries_of js) l.settings) (completions_of js)
  -- the entry that logs a completion is its cause: a clean or a reset that finds the reply, the tick to its moment, or a reset that ends it
  pub caused : (before rest : List Journaled) (j : Journaled) → js ≡ before ++ j ∷ rest → Every (IsExplainedAt l.settings (entries_of before) j.entry) j.completions
  -- a handler gets its initiator's bytes
  pub served : (before rest : List Journaled) (j : Journaled) (serial : ℕ) (reply : ReplyData) → js ≡ before ++ j ∷ rest
      → j.entry.event ≡ ev.Handle serial → j.entry.answer ≡ ev.Answered (handle.Done reply) → WasServed R l before serial reply
  -- each command that was accepted is completed once, or is open
  pub once : (serial : ℕ) (c : CommandData) → WasAccepted (entries_of js) serial c → times_logged (completions_of js) serial + times_open d.state serial ≡ 1
  -- and it is completed where none is open
  pub complete : open_count d.state ≡ 0 → (serial : ℕ) (c : CommandData) → WasAccepted (entries_of js) serial c → times_logged (completions_of js) serial ≡ 1
  -- the open ones, whose number the end line tells, and those completed are as many as were accepted
  pub count : length (completions_of js) + open_count d.state ≡ count_by (λ e. accepts e.answer) (entries_of js)
  -- none is open where the user side is attached
  pub none_open : d.state.attached ≡ true → open_count d.state ≡ 0

-- so it is of each device of a replay, whatever the files, in the entries of this device
abbrev pub CommandsComplete : Type 0
CommandsComplete =
    (files : Option FilesState) (bytes text : List ℕ) (s : ScenarioData) → scenario_of bytes ≡ Ok s → (is : IsTextOf files s text)
    → (at : ℕ) (l : DeviceLineData) (d : Device) → slice_get s.devices at ≡ Some l → slice_get is.replay.ends at ≡ Some d
    → CompletesOnce Serves l (filter (is_of at) (entries_in is.replay.printed)) d

-- the devices of a replay: one for each device line as they open and as they end, and each entry is of one of them
pub record HasItsDevices (files : Option FilesState) (s : ScenarioData) (text : List ℕ) (is : IsTextOf files s text) : Type 0 where
  pub opened : length is.opened ≡ length s.devices
  pub ends : length is.replay.ends ≡ length s.devices
  pub entries : Every (λ j. j.entry.device < length s.devices) (entries_in is.replay.printed)

abbrev pub DevicesStay : Type 0
DevicesStay = (files : Option FilesState) (bytes text : List ℕ) (s : ScenarioData) → scenario_of bytes ≡ Ok s → (is : IsTextOf files s text) → HasItsDevices files s text is

-- ==== loads

-- a load has one line
abbrev pub HasOneLine : Type 0
HasOneLine = (seed count : ℕ) (t u : List ℕ) → IsLoadText seed count t → IsLoadText seed count u → t ≡ u
