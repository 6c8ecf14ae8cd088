-- Which event each ask makes.
use Rattle.std.specs.Prelude.{ℕ, ◌-◌, List, length, Option, Some, None, slice_get}
use Rattle.std.specs.Option.{option_map, option_and_then}
use Rattle.tcmu_types.specs.Events.{EventData, EntryData}
use Rattle.tcmu_types.specs.Events as ev
use Rattle.tcmu_types.specs.declared.stat.Todo.{Todo}
use Rattle.tcmu_model.specs.Device.{DeviceState, Device}
use Rattle.tcmu_model.specs.Drain.{todo_of, chosen}
use Rattle.text_model.specs.Schedule.{sent, admin_made}
use Rattle.text_model.specs.Script.{InitLineData, ScriptData}
use Rattle.journal_kept.specs.declared.asking.Ask.{Ask}
use Rattle.journal_kept.specs.declared.asking.Ask.TheVariants as ask

-- what a kept device has from its start on: its script, its number, and the device as it was
pub record PlanData : Type 0 where
  pub script : ScriptData
  pub device : ℕ
  pub opening : Device

-- ==== lines

-- the event that sends the command of this number
abbrev pub line_at : InitLineData → ℕ → Option EventData
line_at i n = option_map ev.Submit (slice_get i.commands n)

-- how many commands of an initiator these entries send
abbrev pub sent_count : List EntryData → InitLineData → ℕ
sent_count es i = length (sent i.name es)

-- the first line of the initiator of this number that was not made yet
abbrev pub next_line : ScriptData → List EntryData → ℕ → Option EventData
next_line x es at = option_and_then (λ i. line_at i (sent_count es i)) (slice_get x.inits at)

-- the first event of the administration that was not made yet
abbrev pub next_admin : ScriptData → List EntryData → Option EventData
next_admin x es = slice_get x.admin (length (admin_made es))

-- ==== work

-- what of this is left to do beside commands that are with a handler
abbrev pub work_in : Todo → Todo
work_in t = record t { handle = None; respond = None }

-- the first of publish, clean, enter and dispatch that applies as in a drain
abbrev pub work_event : DeviceState → Option EventData
work_event d = chosen (work_in (todo_of d))

-- ==== asks

-- the event that an ask makes behind these entries, on the device to which they led
abbrev pub asked_event : ScriptData → List EntryData → DeviceState → Ask → Option EventData
asked_event x es d (ask.Line at) = next_line x es at
asked_event x es d ask.Admin = next_admin x es
asked_event x es d ask.Work = work_event d
asked_event x es d (ask.Handle s) = Some (ev.Handle s)
asked_event x es d (ask.Respond s) = Some (ev.Respond s)

abbrev pub AsksLines : Ask → Type 0
AsksLines (ask.Line at) = Unit {0}
AsksLines ask.Admin = Unit {0}
AsksLines ask.Work = ⊥
AsksLines (ask.Handle s) = ⊥
AsksLines (ask.Respond s) = ⊥

abbrev pub AsksWork : Ask → Type 0
AsksWork (ask.Line at) = ⊥
AsksWork ask.Admin = ⊥
AsksWork ask.Work = Unit {0}
AsksWork (ask.Handle s) = ⊥
AsksWork (ask.Respond s) = ⊥

-- the ask that makes the first event of the drain
abbrev pub drain_ask : Todo → Ask
drain_ask t =
    elim (t.handle) [
      | Some s ↦ ask.Handle s
      | None ↦ elim (t.respond) [
        | Some s ↦ ask.Respond s
        | None ↦ ask.Work
      ]
    ]
