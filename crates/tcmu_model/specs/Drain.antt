-- What the drain finds to do, and the entries that it makes.
use Rattle.std.specs.Prelude.{◌≡◌, ℕ, nat_lt, ◌&&◌, Bool, false, List, [], ◌∷◌, length, Option, Some, None, if◌then◌else◌}
use Rattle.std.specs.Option.{option_map}
use Rattle.tcmu_types.specs.Events.{EventData, EntryData}
use Rattle.tcmu_types.specs.Events as ev
use Rattle.tcmu_types.specs.declared.stat.Todo.{Todo}
use Rattle.tcmu_model.specs.declared.state.CommandState.TheVariants.{Out, Handled}
use Rattle.tcmu_types.specs.Lists.{first_of}
use Rattle.tcmu_model.specs.Device.{Unfinished, Delayed, DeviceState, Device, has_state}
use Rattle.tcmu_model.specs.Events.{publishable, fits_ring, fits_blocks}
use Rattle.tcmu_model.specs.Steps.{HandlerRelation, Step}

-- the least serial of those that pass: unfinished commands stand in rising serial
abbrev pub least_serial : (Unfinished → Bool) → DeviceState → Option ℕ
least_serial p d = option_map (λ u. u.serial) (first_of p d.unfinished)

-- the first delayed command has room now
abbrev pub can_enter : DeviceState → List Delayed → Bool
can_enter d [] = false
can_enter d (w ∷ ws) = fits_ring d w.command && fits_blocks d w.command

abbrev pub nothing_to_do : Todo
nothing_to_do = record { handle = None; respond = None; publish = false; clean = false; enter = false; dispatch = false }

unfoldable pub todo_of : DeviceState → Todo
todo_of d =
    if d.attached
    then record {
      handle = least_serial (has_state Out) d;
      respond = least_serial (has_state Handled) d;
      publish = nat_lt d.ring.published (publishable d);
      clean = nat_lt d.ring.cleared d.ring.published;
      enter = can_enter d d.delayed;
      dispatch = nat_lt d.ring.dispatched (length d.ring.laid);
    }
    else nothing_to_do

-- the first of these that applies, in the drain's order
abbrev pub chosen : Todo → Option EventData
chosen t =
    elim (t.handle) [
      | Some s ↦ Some (ev.Handle s)
      | None ↦ elim (t.respond) [
        | Some s ↦ Some (ev.Respond s)
        | None ↦ if t.publish then Some ev.Publish
            else (if t.clean then Some ev.Clean
            else (if t.enter then Some ev.Enter
            else (if t.dispatch then Some ev.Dispatch else None)))
      ]
    ]

-- the next event of the drain
unfoldable pub drain_event : DeviceState → Option EventData
drain_event d = chosen (todo_of d)

-- these entries, each the drain's choice, lead to a device on which no event of the drain applies
abbrev pub Drains : HandlerRelation → ℕ → Device → List EntryData → Device → Type 0
Drains R device d [] d' = (drain_event d.state ≡ None) × (d' ≡ d)
Drains R device d (e ∷ es) d' =
    (e.device ≡ device) × (drain_event d.state ≡ Some e.event) × (mid : Device) × Step R d e mid × Drains R device mid es d'
