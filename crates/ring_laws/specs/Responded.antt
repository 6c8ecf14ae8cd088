-- A respond: what it rests on.
use Rattle.std.specs.Prelude.{◌≡◌, ℕ, List, length, take, drop, map, Some}
use Rattle.std.specs.List.{filter}
use Rattle.tcmu_model.specs.declared.state.CommandState.TheVariants.{Handled}
use Rattle.tcmu_types.specs.Lists.{first_of}
use Rattle.tcmu_model.specs.Device.{Unfinished, DeviceState, is_at}
use Rattle.tcmu_model.specs.Events.{is_in_hand}
use Rattle.tcmu_model.specs.Sound.{IsSound}
use Rattle.tcmu_types.specs.Numbers.{Differ}
use Rattle.tcmu_model.specs.BlockLists.{Taken}
use Rattle.region_model.specs.Sides.{Parked, PendingRow, UserState}
use Rattle.region_model.specs.Represents.{AreGiven, IsJobOf, command_places}
use Rattle.tcmu_model.specs.Owned.{ListsSound}

-- a handled command, whose job comes with its reply to the user side, which knows its job and those of the others
pub record CanRespond (user : UserState) (rows : List PendingRow) (d : DeviceState) (lists : List Taken) (s : ℕ) (u : Unfinished) (p : Parked) (parts : List (List ℕ)) : Type 0 where
  pub sound : IsSound d
  pub owned : ListsSound d lists
  pub found : first_of (is_at s Handled) d.unfinished ≡ Some u
  pub replied : u.reply ≡ Some p.reply
  pub job : IsJobOf d.settings rows lists u p.job parts
  pub differ : Differ (map (λ e. e.id) rows)
  pub given : AreGiven d.settings rows lists user.jobs (filter is_in_hand d.unfinished)
  pub flags : user.flags ≡ d.settings.flags
  pub offsets : user.offsets ≡ drop (length d.placed) (command_places d.ring.size 0 (take d.ring.dispatched d.ring.laid))
