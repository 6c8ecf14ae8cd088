-- When an event of the drain applies, and whose turn is first.
use Rattle.std.specs.Prelude.{◌≡◌, ℕ, ◌<◌, true, length}
use Rattle.std.specs.List.{list_any}
use Rattle.tcmu_types.specs.Events.{EventData}
use Rattle.tcmu_types.specs.Events as ev
use Rattle.tcmu_types.specs.declared.answer.Enter.TheVariants as enter
use Rattle.tcmu_model.specs.declared.state.CommandState.TheVariants.{Out, Handled}
use Rattle.tcmu_model.specs.Device.{DeviceState, is_at}
use Rattle.tcmu_model.specs.Events.{enter_answer, publishable}

-- The event has something to do: its command is out, or handled; an item can be published; an item that is published is not cleared; a
-- command that waits would enter; an item is not dispatched. No other event is the drain's.
abbrev pub Applies : DeviceState → EventData → Type 0
Applies d (ev.Handle s) = list_any (is_at s Out) d.unfinished ≡ true
Applies d (ev.Respond s) = list_any (is_at s Handled) d.unfinished ≡ true
Applies d ev.Publish = d.ring.published < publishable d
Applies d ev.Clean = d.ring.cleared < d.ring.published
Applies d ev.Enter = (s : ℕ) × (enter_answer d ≡ enter.Entered s)
Applies d ev.Dispatch = d.ring.dispatched < length d.ring.laid
Applies d _ = ⊥

-- what waits for the user side goes first, then what is on its way back, and last what is new
abbrev pub turn : EventData → ℕ
turn (ev.Handle s) = 0
turn (ev.Respond s) = 1
turn ev.Publish = 2
turn ev.Clean = 3
turn ev.Enter = 4
turn ev.Dispatch = 5
turn _ = 6
