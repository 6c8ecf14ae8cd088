-- The script of a device: what each of its initiators sends, and what the administration does.
use Rattle.std.specs.Prelude.{ℕ, Bool, true, false, ◌&&◌, List, [], ◌∷◌, map, Some, None, ◌==◌, if◌then◌else◌, bytes_eq}
use Rattle.std.specs.List.{flat_map}
use Rattle.tcmu_types.specs.Data.{CommandData}
use Rattle.tcmu_types.specs.Events.{EventData}
use Rattle.tcmu_types.specs.Events as ev
use Rattle.text_model.specs.ScenarioData.{ScenarioData, LineData, LineWhat, EventLine, DrainLine, DumpLine, command_of}
use Rattle.text_model.specs.Scenario.{initiators}

-- what one initiator sends
pub record InitLineData : Type 0 where
  pub name : List ℕ
  pub commands : List CommandData

pub record ScriptData : Type 0 where
  pub inits : List InitLineData
  pub admin : List EventData

-- the command of a line, where this initiator sends it to this device
abbrev pub sent_by : ℕ → List ℕ → LineData → List CommandData
sent_by device name l = elim (command_of l) [ Some c ↦ if (l.device == device) && bytes_eq c.init name then c ∷ [] else [] | None ↦ [] ]

abbrev pub is_admin : EventData → Bool
is_admin (ev.Tick n) = true
is_admin ev.Block = true
is_admin ev.Unblock = true
is_admin (ev.Reset level) = true
is_admin ev.Restart = true
is_admin (ev.Tmr kind serials) = true
is_admin ev.Stat = true
is_admin (ev.Submit c) = false
is_admin ev.Dispatch = false
is_admin (ev.Handle s) = false
is_admin (ev.Respond s) = false
is_admin ev.Publish = false
is_admin ev.Clean = false
is_admin ev.Enter = false

abbrev pub admin_in : LineWhat → List EventData
admin_in (EventLine e) = if is_admin e then e ∷ [] else []
admin_in DrainLine = []
admin_in DumpLine = []

-- the event of a line, where the administration of this device makes it
abbrev pub admin_of : ℕ → LineData → List EventData
admin_of device l = if l.device == device then admin_in l.what else []

abbrev pub init_line : ℕ → List LineData → List ℕ → InitLineData
init_line device ls name = record { name = name; commands = flat_map (sent_by device name) ls }

-- the initiators in the order of their first submits, each with its commands in order
unfoldable pub script_of : ScenarioData → ℕ → ScriptData
script_of s device = record {
  inits = map (init_line device s.lines) (initiators device s.lines);
  admin = flat_map (admin_of device) s.lines;
}
