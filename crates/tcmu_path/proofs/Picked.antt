-- What a drain picks.
use Rattle.std.proofs.Common.{◌&&◌, nat_lt, Bool, true, false, ◌≡◌, ℕ, List, [], ◌∷◌, Option, refl, sym, ap, ◌∙◌, subst}
use Rattle.std.specs.Option.{option_map}
use Rattle.tcmu_types.specs.Views.{event_data}
use Rattle.tcmu_types.specs.declared.event.Event.{Event}
use Rattle.tcmu_types.specs.declared.stat.Todo.{Todo}
use Rattle.tcmu_model.specs.Device.{DeviceState}
use Rattle.tcmu_model.specs.Drain.{drain_event, todo_of, chosen}

-- an event that is chosen of what a device finds to do is the drain's event
pub picked_by : (d : DeviceState) (t : Todo) (o : Option Event) → t ≡ todo_of d → option_map event_data o ≡ chosen t → drain_event d ≡ option_map event_data o
unfolding drain_event
picked_by d t o is value = sym (value ∙ ap chosen is)
