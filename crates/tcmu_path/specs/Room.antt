-- The commands that may still be placed, and those that may still be logged.
use Rattle.std.specs.Prelude.{◌≡◌, ℕ, ◌+◌, ◌≤◌, Bool, true, false, List, length, take}
use Rattle.std.specs.List.{count_by, sum_by}
use Rattle.tcmu_model.specs.declared.state.CommandState.{CommandState}
use Rattle.tcmu_model.specs.declared.state.CommandState.TheVariants.{Waiting, Out, Handled, Parked, Placed, Lost}
use Rattle.tcmu_types.specs.Data.{SettingsData}
use Rattle.tcmu_model.specs.RingState.{Item, serials_in}
use Rattle.tcmu_model.specs.Lengths.{blocks_of}
use Rattle.tcmu_model.specs.Device.{Unfinished, Delayed}
use Rattle.tcmu_model.specs.Events.{is_open}

-- in these states the answer of a command may still be placed
abbrev pub is_placeable : CommandState → Bool
is_placeable Waiting = true
is_placeable Out = true
is_placeable Handled = true
is_placeable Parked = true
is_placeable Placed = false
is_placeable Lost = false

-- an answer to this command may still be placed
abbrev pub may_be_placed : Unfinished → Bool
may_be_placed u = is_placeable u.state

-- how many answers may still be placed
abbrev pub to_place : List Unfinished → ℕ
to_place us = count_by may_be_placed us

-- how many completions are still to be logged
abbrev pub to_log : List Unfinished → ℕ
to_log us = count_by is_open us

-- the data blocks that commands hold
abbrev pub blocks_of_commands : ℕ → List Unfinished → ℕ
blocks_of_commands pages us = sum_by (λ u. blocks_of pages u.command) us

-- the commands hold the same blocks, and ask for no more room
pub record KeepsRoom (old new : List Unfinished) : Type 0 where
  pub blocks : (pages : ℕ) → blocks_of_commands pages new ≡ blocks_of_commands pages old
  pub to_log : to_log new ≤ to_log old
  pub to_place : to_place new ≤ to_place old

-- What a plain device keeps beside its state: the data blocks that are held, room for all that is to come without memory, and
-- in order how many items stand before the first whose answer is not placed.
pub record IsPlain (s : SettingsData) (laid : List Item) (us : List Unfinished) (ws : List Delayed) (placed : List ℕ) (held placed_spare log_spare passed : ℕ) : Type 0 where
  pub held_is : held ≡ blocks_of_commands s.pages us
  pub placed_room : to_place us ≤ placed_spare
  pub log_room : to_log us + length ws ≤ log_spare
  pub within : passed ≤ length laid
  pub ordered : s.flags.ooo ≡ false → placed ≡ serials_in (take passed laid)
