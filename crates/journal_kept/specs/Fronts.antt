-- Scripts that can be kept, and fronts of their schedules.
use Rattle.std.specs.Prelude.{◌≡◌, ◌≢◌, ℕ, ◌<◌, ◌≤◌, ◌^◌, true, List, length}
use Rattle.std.specs.List.{All, AllPairs, sum_by}
use mathlib.Core.List.{IsPrefix}
use Rattle.tcmu_types.specs.Events.{EventData, EntryData}
use Rattle.tcmu_types.specs.Lists.{Every}
use Rattle.tcmu_types.specs.Rules.{IsSettings}
use Rattle.tcmu_model.specs.Device.{Device, opening_state}
use Rattle.tcmu_model.specs.Steps.{HandlerRelation}
use Rattle.tcmu_path.specs.Tasks.{CanBeMade}
use Rattle.text_model.specs.Schedule.{LiveRun, sent, to_send, admin_made}
use Rattle.text_model.specs.Script.{ScriptData, is_admin}
use Rattle.journal_kept.specs.Asked.{PlanData}

-- ==== what can be kept

-- an event of the administration, with a level or a kind that there is, and with rising serials
pub record CanAdminister (e : EventData) : Type 0 where
  pub kind : is_admin e ≡ true
  pub can : CanBeMade e

-- At most 16 initiators of different names, with fewer than 2^63 commands in all, each under its own initiator's name; and events that
-- the administration can make.
pub record CanKeep (x : ScriptData) : Type 0 where
  pub few : length x.inits ≤ 16
  pub names : AllPairs (λ i j. i.name ≢ j.name) x.inits
  pub own : All (λ i. All (λ c. c.init ≡ i.name) i.commands) x.inits
  pub few_commands : sum_by (λ i. length i.commands) x.inits < 2 ^ 63
  pub admin : All CanAdminister x.admin

-- a device as it opens, with settings that keep the limits
pub record IsOpened (d : Device) : Type 0 where
  pub settings : IsSettings d.state.settings
  pub state : d.state ≡ opening_state d.state.settings

-- the script can be kept, and the device was as it opens
pub record IsPlan (p : PlanData) : Type 0 where
  pub script : CanKeep p.script
  pub opened : IsOpened p.opening

-- ==== fronts

-- These entries are a front of a schedule of the plan. They are legal from its opening on, and lead to this device; each is of its device,
-- and stands where it is due. What they send under each name, and what they do of the administration, are fronts of the script's lists.
pub record IsFront (R : HandlerRelation) (p : PlanData) (es : List EntryData) (d : Device) : Type 0 where
  pub plan : IsPlan p
  pub run : LiveRun R p.opening es d
  pub own : Every (λ e. e.device ≡ p.device) es
  pub lines : (name : List ℕ) → IsPrefix (sent name es) (to_send p.script.inits name)
  pub admin : IsPrefix (admin_made es) p.script.admin
