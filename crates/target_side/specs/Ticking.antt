-- Commands that expire, one after another.
use Rattle.std.specs.Prelude.{◌≡◌, ℕ, Bool, true, false, List, [], ◌+◌, ◌++◌, map}
use Rattle.std.specs.List.{filter}
use Rattle.tcmu_types.specs.Data.{DoneData}
use Rattle.region_model.specs.TargetSteps.{checked, expired_at, is_due_at}
use Rattle.region_model.specs.Sides.{PendingRow}
use Rattle.target_side.specs.Books.{to_log}
use Rattle.target_side.specs.HeldRows.{HeldRows}

-- the completions of the commands that are due
abbrev pub due_logs : ℕ → List PendingRow → List DoneData
due_logs now rows = map (λ e. checked 0x0b 0x08 0x01 e.pending) (filter (is_due_at now) rows)

-- the first that is due is logged, and expired; what is still to come is the same
pub record ExpiresOne (now : ℕ) (before : HeldRows) (start : List DoneData) (after : HeldRows) (logged : List DoneData) : Type 0 where
  pub limit : after.limit ≡ before.limit
  pub rows : map (expired_at now) after.rows ≡ map (expired_at now) before.rows
  pub log : logged ++ due_logs now after.rows ≡ start ++ due_logs now before.rows
  pub less : to_log after.rows + 1 ≡ to_log before.rows

-- none is due, and nothing changes
pub record ExpiresNone (now : ℕ) (before : HeldRows) (start : List DoneData) (after : HeldRows) (logged : List DoneData) : Type 0 where
  pub same : after ≡ before
  pub log : logged ≡ start
  pub none : filter (is_due_at now) before.rows ≡ []

abbrev pub ExpiresNext : ℕ → HeldRows → List DoneData → Bool → HeldRows → List DoneData → Type 0
ExpiresNext now before start true after logged = ExpiresOne now before start after logged
ExpiresNext now before start false after logged = ExpiresNone now before start after logged
