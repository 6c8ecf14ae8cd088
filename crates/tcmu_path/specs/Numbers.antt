-- What a plain ring keeps beside its state.
use Rattle.std.specs.Prelude.{◌≡◌, ℕ, ◌<◌, ◌≤◌, length}
use Rattle.tcmu_model.specs.RingState.{RingState, head, used, cleared_commands, published_commands}

-- the numbers that are kept are those of the ring's definition
pub record HasNumbers (r : RingState) (head_kept used_kept cleared_kept published_kept : ℕ) : Type 0 where
  pub low : 4096 ≤ r.size
  pub high : r.size ≤ 4194304
  pub cleared : r.cleared ≤ r.published
  pub published : r.published ≤ r.dispatched
  pub dispatched : r.dispatched ≤ length r.laid
  pub head_is : head_kept ≡ head r
  pub used_is : used_kept ≡ used r
  pub room : used_kept < r.size
  pub cleared_is : cleared_kept ≡ cleared_commands r
  pub published_is : published_kept ≡ published_commands r
