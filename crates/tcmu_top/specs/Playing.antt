-- What was made of devices and written of it, as far as a replay has come.
use Rattle.std.specs.Prelude.{◌≡◌, ◌⊎◌, ℕ, ◌^◌, ◌<◌, ◌≤◌, List, [], ◌∷◌, ◌++◌, map, Option, Some, length, drop, slice_get, slice_set}
use Rattle.std.specs.List.{flat_map}
use Rattle.tcmu_types.specs.Data.{DoneData}
use Rattle.tcmu_types.specs.Events.{EventData, AnswerData, EntryData}
use Rattle.edge.specs.Outside.{Gained, GainedFront}
use Rattle.tcmu_model.specs.Device.{Device}
use Rattle.tcmu_model.specs.Sound.{IsSound}
use Rattle.tcmu_types.specs.Lists.{Every}
use Rattle.tcmu_model.specs.Steps.{HandlerRelation, Step, Run}
use Rattle.tcmu_model.specs.Work.{HasOutcomes}
use Rattle.text_model.specs.ScenarioData.{DeviceLineData}
use Rattle.text_model.specs.Text.{entries_text, event_line, completion_text}
use Rattle.text_model.specs.Journals.{Journaled, IsLegalEach, journaled_text}
use Rattle.tcmu_path.specs.Calls.{Accepts}

-- the line of an event with its answer, and those of the completions that it logged
abbrev pub event_lines : DeviceLineData → EventData → AnswerData → List DoneData → List ℕ
event_lines l event answer logged = event_line l.name l.settings.qfull event answer ++ flat_map (completion_text l.name) logged

-- the text of the entries that lead from one device to another, with the completions that they logged
abbrev pub run_text : DeviceLineData → Device → List EntryData → Device → List ℕ
run_text l d es d' = entries_text l.name l.settings.qfull es (drop (length d.state.log) d'.state.log)

-- an event was made: its entry
pub record MadeEvent (R : HandlerRelation) (at : ℕ) (event : EventData) (d d' : Device) : Type 0 where
  pub entry : EntryData
  pub device : entry.device ≡ at
  pub is : entry.event ≡ event
  pub step : Step R d entry d'

-- an event was made on the device of this number, and its text written
pub record Played (R : HandlerRelation) (at : ℕ) (l : DeviceLineData) (event : EventData) (d d' : Device) (old new : Option (List ℕ)) : Type 0 where
  pub made : MadeEvent R at event d d'
  pub wrote : Gained old (run_text l d (made.entry ∷ []) d') new

-- it was made, and a front of its text written
pub record PlayedInPart (R : HandlerRelation) (at : ℕ) (l : DeviceLineData) (event : EventData) (d d' : Device) (old new : Option (List ℕ)) : Type 0 where
  pub made : MadeEvent R at event d d'
  pub wrote : GainedFront old (run_text l d (made.entry ∷ []) d') new

-- nothing came of it
pub record NothingCame (d d' : Device) (old new : Option (List ℕ)) : Type 0 where
  pub device : d' ≡ d
  pub wrote : new ≡ old

-- nothing came of an event, or it was made and told in part
abbrev pub Stopped : HandlerRelation → ℕ → DeviceLineData → EventData → Device → Device → Option (List ℕ) → Option (List ℕ) → Type 0
Stopped R at l event d d' old new = NothingCame d d' old new ⊎ PlayedInPart R at l event d d' old new

-- entries that are so were made and written
pub record Wrote (R : HandlerRelation) (l : DeviceLineData) (so : List EntryData → Type 0) (d d' : Device) (old new : Option (List ℕ)) : Type 0 where
  pub entries : List EntryData
  pub right : so entries
  pub run : Run R d entries d'
  pub wrote : Gained old (run_text l d entries d') new

-- What was made is written whole, but for the last at most, of which a piece is written.
pub record AllButLast {X : Type 0} (made : List X) (text : List X → List ℕ) (old new : Option (List ℕ)) : Type 0 where
  pub written : List X
  pub last : List X
  pub split : made ≡ written ++ last
  pub one : length last ≤ 1
  pub piece : List ℕ
  pub gained : Gained old (text written ++ piece) new

-- Entries were made, of which all are written whole but the last at most. Those that are written lead to a device, and the last from it on.
pub record RunAllButLast (R : HandlerRelation) (l : DeviceLineData) (made : List EntryData) (d d' : Device) (old new : Option (List ℕ)) : Type 0 where
  pub before : Device
  pub parts : AllButLast made (λ es. run_text l d es before) old new
  pub first : Run R d parts.written before
  pub second : Run R before parts.last d'

-- others can follow these entries, so that all are as they are to be, and end in a device
pub record CanEnd (R : HandlerRelation) (so : List EntryData → Device → Type 0) (made : List EntryData) (d' : Device) : Type 0 where
  pub rest : List EntryData
  pub end : Device
  pub right : so (made ++ rest) end
  pub more : Run R d' rest end

-- A part of what is asked for was made, of which a front is written. Where the handler can answer each request, the rest can follow.
pub record WroteFront (R : HandlerRelation) (l : DeviceLineData) (part so : List EntryData → Device → Type 0) (d d' : Device) (old new : Option (List ℕ)) : Type 0 where
  pub made : List EntryData
  pub asked : part made d'
  pub run : Run R d made d'
  pub wrote : GainedFront old (run_text l d made d') new
  pub stopped : RunAllButLast R l made d d' old new
  pub ends : HasOutcomes R → CanEnd R so made d'

-- ==== one of several devices

-- the devices of a list, each with a name
abbrev pub states_of : {P : Type 0} → (P → Device) → List (List ℕ × P) → List Device
states_of device es = map (λ e. device e.1) es

-- each is sound
abbrev pub AreSound : List Device → Type 0
AreSound = Every (λ d. IsSound d.state)

-- each can accept one command more, by its serial
abbrev pub CanGoOn : List Device → Type 0
CanGoOn = Every (λ d. d.state.accepted < 2 ^ 63)

-- Entries that are so were made of the device of this number and written under its name. It accepted at most so many commands more, and
-- all other devices are as they were.
pub record WroteOn (R : HandlerRelation) (ls : List DeviceLineData) (at accepted : ℕ) (so : Device → List EntryData → Device → Type 0) (ds ds' : List Device) (old new : Option (List ℕ)) : Type 0 where
  pub line : DeviceLineData
  pub before : Device
  pub after : Device
  pub named : slice_get ls at ≡ Some line
  pub found : slice_get ds at ≡ Some before
  pub others : ds' ≡ slice_set ds at after
  pub wrote : Wrote R line (λ es. so before es after) before after old new
  pub accepts : Accepts accepted before after

-- the same, where they were made and written in part
pub record WroteOnFront (R : HandlerRelation) (ls : List DeviceLineData) (at : ℕ) (part so : Device → List EntryData → Device → Type 0) (ds ds' : List Device) (old new : Option (List ℕ)) : Type 0 where
  pub line : DeviceLineData
  pub before : Device
  pub after : Device
  pub named : slice_get ls at ≡ Some line
  pub found : slice_get ds at ≡ Some before
  pub others : ds' ≡ slice_set ds at after
  pub wrote : WroteFront R line (part before) (so before) before after old new

-- ==== all devices

-- a journal that is so was made of these devices and written, each entry under the name of its device
pub record WroteEach (R : HandlerRelation) (ls : List DeviceLineData) (so : List EntryData → List Device → Type 0) (ds ds' : List Device) (old new : Option (List ℕ)) : Type 0 where
  pub journal : List Journaled
  pub right : so (map (λ j. j.entry) journal) ds'
  pub legal : IsLegalEach R ds journal ds'
  pub wrote : Gained old (flat_map (journaled_text ls) journal) new

-- more can follow a journal, so that all is as it is to be
pub record CanEndEach (R : HandlerRelation) (so : List EntryData → List Device → Type 0) (ds : List Device) (made : List Journaled) : Type 0 where
  pub rest : List Journaled
  pub ends : List Device
  pub right : so (map (λ j. j.entry) (made ++ rest)) ends
  pub legal : IsLegalEach R ds (made ++ rest) ends

-- The journal of a part of what is asked for was made, of which a front is written. Where the handler can answer each request, the rest can
-- follow.
pub record WroteEachFront (R : HandlerRelation) (ls : List DeviceLineData) (part so : List EntryData → List Device → Type 0) (ds ds' : List Device) (old new : Option (List ℕ)) : Type 0 where
  pub made : List Journaled
  pub asked : part (map (λ j. j.entry) made) ds'
  pub legal : IsLegalEach R ds made ds'
  pub wrote : GainedFront old (flat_map (journaled_text ls) made) new
  pub stopped : AllButLast made (flat_map (journaled_text ls)) old new
  pub ends : HasOutcomes R → CanEndEach R so ds made
