-- What contracts see of a turn and of a pass.
use Rattle.std.specs.Prelude.{ℕ, List}
use Rattle.atomic_table.specs.Seated.{TableId}
use Rattle.turn_lock.specs.declared.rule.Receipt.{Receipt}

-- which turn it is, the number of all its parts, and the script and the history that its value had at the start
pub record TurnData (S E : Type 0) : Type 0 where
  pub turn : TableId
  pub parts : ℕ
  pub script : S
  pub begun : List E

-- which turn it is of, its number of parts, the length of the longest history that it saw, and its receipts
pub record PassData (A T : Type 0) : Type 0 where
  pub turn : TableId
  pub parts : ℕ
  pub seen : ℕ
  pub receipts : List (Receipt A T)
