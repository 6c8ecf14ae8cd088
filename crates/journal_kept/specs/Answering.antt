-- What each ask may be told, and what comes of it.
use Rattle.std.specs.Prelude.{◌≡◌, ℕ, Bool, true, false, List, [], ◌∷◌, ◌++◌, Option, Some, None}
use Rattle.tcmu_types.specs.Events.{EventData, EntryData}
use Rattle.tcmu_types.specs.Views.{answer_data}
use Rattle.tcmu_model.specs.Device.{DeviceState, Device}
use Rattle.tcmu_model.specs.Steps.{HandlerRelation, Step}
use Rattle.tcmu_model.specs.Drain.{drain_event}
use Rattle.text_model.specs.Schedule.{LiveRun, AllMade}
use Rattle.text_model.specs.Script.{ScriptData}
use Rattle.journal_kept.specs.Asked.{PlanData, asked_event, AsksLines, AsksWork}
use Rattle.tcmu_types.specs.declared.answer.Answer.{Answer}
use Rattle.journal_kept.specs.declared.asking.Ask.{Ask}
use Rattle.journal_kept.specs.declared.asking.Told.{Told}
use Rattle.journal_kept.specs.declared.asking.Told.TheVariants as told

-- whether what was told is that an event was made
abbrev pub tells_answer : Told → Bool
tells_answer (told.Answered a) = true
tells_answer told.NoLine = false
tells_answer told.Idle = false
tells_answer told.Ended = false

-- One entry was added, of this event on this device with this answer, and led to the device behind it.
pub record AddsEntry (R : HandlerRelation) (device : ℕ) (d : Device) (event : EventData) (answer : Answer) (added : List EntryData) (d' : Device) : Type 0 where
  pub entry : EntryData
  pub one : added ≡ entry ∷ []
  pub own : entry.device ≡ device
  pub event_is : entry.event ≡ event
  pub answer_is : entry.answer ≡ answer_data answer
  pub step : Step R d entry d'

-- no entry was added, and the device is as it was
pub record AddsNone (d : Device) (added : List EntryData) (d' : Device) : Type 0 where
  pub none : added ≡ []
  pub device : d' ≡ d

-- every line was made, and no event of the drain applies
pub record IsAtEnd (x : ScriptData) (es : List EntryData) (d : DeviceState) : Type 0 where
  pub made : AllMade x es
  pub done : drain_event d ≡ None

-- behind these entries, on the device to which they led, the ask may be told this; and these entries were added, which led to another
abbrev pub TellsOn : HandlerRelation → PlanData → List EntryData → Device → Ask → Told → List EntryData → Device → Type 0
TellsOn R p es d ask (told.Answered answer) added d' = (event : EventData) × (asked_event p.script es d.state ask ≡ Some event) × AddsEntry R p.device d event answer added d'
TellsOn R p es d ask told.NoLine added d' = AddsNone d added d' × AsksLines ask × (asked_event p.script es d.state ask ≡ None)
TellsOn R p es d ask told.Idle added d' = AddsNone d added d' × AsksWork ask × (asked_event p.script es d.state ask ≡ None) × (IsAtEnd p.script es d.state → ⊥)
TellsOn R p es d ask told.Ended added d' = AddsNone d added d' × AsksWork ask × IsAtEnd p.script es d.state

-- behind these entries, wherever they led, the ask may be told this; and these entries were added
pub record MayTell (R : HandlerRelation) (p : PlanData) (es : List EntryData) (ask : Ask) (told : Told) (added : List EntryData) : Type 0 where
  pub before : Device
  pub after : Device
  pub run : LiveRun R p.opening es before
  pub tells : TellsOn R p es before ask told added after
