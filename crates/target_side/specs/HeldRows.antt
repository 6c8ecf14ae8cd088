-- The commands that hold data blocks.
use Rattle.std.specs.Prelude.{◌≡◌, ℕ, ◌+◌, ◌||◌, nat_le, Bool, List, length, Some}
use Rattle.tcmu_types.specs.Lists.{first_of}
use Rattle.region_model.specs.Represents.{has_id}
use Rattle.target_table.specs.Rows.{is_waiting}
use Rattle.tcmu_types.specs.Numbers.{Differ, is_among}
use Rattle.region_model.specs.Sides.{PendingRow}
use Rattle.region_model.specs.TargetSteps.{is_due_at, blocks_held}
use Rattle.data_blocks.specs.Held.{HeldBlocks}

-- how many blocks may be held, and the commands in rising serial
pub record HeldRows : Type 0 where
  pub limit : ℕ
  pub rows : List PendingRow

-- just the blocks of the commands are held, each once
pub record HoldsJust (held : List ℕ) (rows : List PendingRow) : Type 0 where
  pub numbers : (n : ℕ) → is_among held n ≡ is_among (blocks_held rows) n
  pub count : length held ≡ length (blocks_held rows)
  pub differ : Differ (blocks_held rows)

-- these numbers are held besides
pub record HoldsMore (before : HeldBlocks) (ns : List ℕ) (after : HeldBlocks) : Type 0 where
  pub limit : after.limit ≡ before.limit
  pub held : (n : ℕ) → is_among after.held n ≡ (is_among ns n || is_among before.held n)
  pub count : length after.held ≡ length before.held + length ns

-- the same numbers are held
pub record HoldsSame (before after : HeldBlocks) : Type 0 where
  pub limit : after.limit ≡ before.limit
  pub held : (n : ℕ) → is_among after.held n ≡ is_among before.held n
  pub count : length after.held ≡ length before.held

-- a command's serial is not below a number
abbrev pub is_from : ℕ → PendingRow → Bool
is_from serial row = nat_le serial row.pending.serial

-- the command of this id is the first that is due, and the first that is not expired
pub record IsNextDue (now : ℕ) (rows : List PendingRow) (id : ℕ) : Type 0 where
  pub row : PendingRow
  pub id_is : row.id ≡ id
  pub due : first_of (is_due_at now) rows ≡ Some row
  pub waits : first_of is_waiting rows ≡ Some row
  pub own : first_of (has_id id) rows ≡ Some row
