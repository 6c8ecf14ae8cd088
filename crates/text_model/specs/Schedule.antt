-- A live schedule of a script: a legal journal of a device in which the initiators and the administration make their lists in order, and the
-- target and the user side work where a drain would.
use Rattle.std.specs.Prelude.{◌≡◌, ℕ, Bool, true, false, List, [], ◌∷◌, slice_get, Some, None, if◌then◌else◌, bytes_eq}
use Rattle.std.specs.List.{flat_map, filter}
use Rattle.tcmu_types.specs.Data.{CommandData}
use Rattle.tcmu_types.specs.Events.{EventData, EntryData}
use Rattle.tcmu_types.specs.Events as ev
use Rattle.tcmu_types.specs.Lists.{Every}
use Rattle.tcmu_model.specs.Device.{DeviceState, Device}
use Rattle.tcmu_model.specs.Steps.{HandlerRelation, Step, Run}
use Rattle.tcmu_model.specs.Drain.{todo_of, drain_event}
use Rattle.text_model.specs.Journals.{Journaled, is_of, entries_of}
use Rattle.text_model.specs.ScenarioData.{ScenarioData}
use Rattle.text_model.specs.Script.{InitLineData, ScriptData, is_admin, script_of}

-- ==== where events stand

-- Whether an event may stand here: dispatch, publish, clean and enter where a drain finds them to do, so never on a detached device; all
-- others anywhere.
abbrev pub may_stand : DeviceState → EventData → Bool
may_stand d ev.Dispatch = (todo_of d).dispatch
may_stand d ev.Publish = (todo_of d).publish
may_stand d ev.Clean = (todo_of d).clean
may_stand d ev.Enter = (todo_of d).enter
may_stand d _ = true

-- the target or the user side works
abbrev pub is_work : EventData → Bool
is_work ev.Dispatch = true
is_work ev.Publish = true
is_work ev.Clean = true
is_work ev.Enter = true
is_work _ = false

-- the entries are made one after another, each where it is due
abbrev pub LiveRun : HandlerRelation → Device → List EntryData → Device → Type 0
LiveRun R d [] d' = d' ≡ d
LiveRun R d (e ∷ es) d' = (may_stand d.state e.event ≡ true) × (mid : Device) × Step R d e mid × LiveRun R mid es d'

-- ==== the lists of a script

-- the command of an event, where it is sent under this name
abbrev pub sent_under : List ℕ → EventData → List CommandData
sent_under name (ev.Submit c) = if bytes_eq c.init name then c ∷ [] else []
sent_under name _ = []

-- the commands that these entries send under a name
abbrev pub sent : List ℕ → List EntryData → List CommandData
sent name es = flat_map (λ e. sent_under name e.event) es

-- the commands that a script has under a name
abbrev pub to_send : List InitLineData → List ℕ → List CommandData
to_send [] name = []
to_send (i ∷ is) name = if bytes_eq i.name name then i.commands else to_send is name

abbrev pub if_admin : EventData → List EventData
if_admin e = if is_admin e then e ∷ [] else []

-- the events of the administration among these entries
abbrev pub admin_made : List EntryData → List EventData
admin_made es = flat_map (λ e. if_admin e.event) es

-- every line of the script was made, those of each list in order, and no other
pub record AllMade (x : ScriptData) (es : List EntryData) : Type 0 where
  pub lines : (name : List ℕ) → sent name es ≡ to_send x.inits name
  pub admin : admin_made es ≡ x.admin

-- ==== schedules

-- These entries of the device of a number are a schedule of a script, from one device to another.
pub record IsSchedule (R : HandlerRelation) (device : ℕ) (x : ScriptData) (d : Device) (es : List EntryData) (d' : Device) : Type 0 where
  -- they are legal, and each stands where it is due
  pub run : LiveRun R d es d'
  pub own : Every (λ e. e.device ≡ device) es
  pub made : AllMade x es
  -- at the end a drain finds nothing to do
  pub done : drain_event d'.state ≡ None

pub record HasSchedule (R : HandlerRelation) (device : ℕ) (x : ScriptData) (d : Device) : Type 0 where
  pub entries : List EntryData
  pub end : Device
  pub is : IsSchedule R device x d entries end

-- behind these entries stands one where its device is attached
pub record StandsAttached (R : HandlerRelation) (d : Device) (before : List EntryData) : Type 0 where
  pub device : Device
  pub run : Run R d before device
  pub attached : device.state.attached ≡ true

-- the entries of each device are a schedule of its script
abbrev pub AreSchedules : HandlerRelation → ScenarioData → List Device → List Journaled → List Device → Type 0
AreSchedules R s opened js ends =
    (at : ℕ) (d d' : Device) → slice_get opened at ≡ Some d → slice_get ends at ≡ Some d' → IsSchedule R at (script_of s at) d (entries_of (filter (is_of at) js)) d'
