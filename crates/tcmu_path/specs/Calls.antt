-- What each call of a path keeps beside its event.
use Rattle.std.specs.Prelude.{◌≡◌, ℕ, ◌+◌, ◌≤◌, List, [], Option, IfSome}
use Rattle.std.specs.Option.{option_map}
use Rattle.tcmu_types.specs.Events.{EventData, AnswerData}
use Rattle.tcmu_model.specs.Device.{Device}
use Rattle.tcmu_model.specs.BlockLists.{Taken, lists_after}

-- nothing changed
pub record Keeps (d d' : Device) (ls ls' : Option (List Taken)) : Type 0 where
  pub device : d' ≡ d
  pub lists : ls' ≡ ls

-- where the block lists are told, they are those after the event
abbrev pub ListsFollow : Option (List Taken) → Device → EventData → AnswerData → Device → Option (List Taken) → Type 0
ListsFollow lists d event answer d' lists' = lists' ≡ option_map (λ ls. lists_after d.state ls event answer d'.state) lists

-- where the block lists are told, there are none as a device opens
abbrev pub OpensLists : Option (List Taken) → Type 0
OpensLists lists = IfSome lists (λ ls. ls ≡ [])

-- at most n commands were accepted, and none was taken back
pub record Accepts (n : ℕ) (d d' : Device) : Type 0 where
  pub least : d.state.accepted ≤ d'.state.accepted
  pub most : d'.state.accepted ≤ d.state.accepted + n
