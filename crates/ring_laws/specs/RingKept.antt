-- What the target's own record of the ring keeps over any bytes.
use Rattle.std.specs.Prelude.{◌≡◌, ℕ, ◌+◌, ◌%◌, ◌<◌, ◌≤◌, true, length}
use Rattle.std.specs.List.{count_by}
use Rattle.tcmu_types.specs.Lists.{Every}
use Rattle.region_model.specs.Sides.{TargetState}
use Rattle.region_model.specs.TargetSteps.{used_in}
use Rattle.region_model.specs.UserSteps.{is_cmd}

-- a place in a ring, where an entry may begin
pub record IsPlace (ring at : ℕ) : Type 0 where
  pub below : at < ring
  pub aligned : at % 8 ≡ 0

-- the items that are not cleared leave a byte of the ring
pub record RingKept (t : TargetState) : Type 0 where
  pub cleaned : IsPlace t.settings.ring t.cleaned
  pub items : Every (λ x. x.len % 8 ≡ 0) t.items
  pub used : used_in t < t.settings.ring

-- the items and the rows are of the same commands, as many as were laid and not cleared since the last reset
pub record RowsKept (t : TargetState) : Type 0 where
  pub commands : count_by is_cmd t.items ≡ length t.rows
  pub counted : t.laid ≡ t.cleared + length t.rows
  -- a command's item has 112 bytes at least
  pub long : Every (λ x. is_cmd x ≡ true → 112 ≤ x.len) t.items
