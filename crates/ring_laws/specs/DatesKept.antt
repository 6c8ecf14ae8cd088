-- What the target keeps of its clock over any bytes.
use Rattle.std.specs.Prelude.{◌^◌, ◌≤◌}
use Rattle.tcmu_types.specs.Lists.{Every}
use Rattle.region_model.specs.Pending.{NotAfter}
use Rattle.region_model.specs.Sides.{TargetState}
use Rattle.region_model.specs.TargetSteps.{deadline_in}

-- the moment is 2^63 at most, and no command is due behind one that is laid now
pub record DatesKept (t : TargetState) : Type 0 where
  pub moment : t.now ≤ 2 ^ 63
  pub due : Every (λ e. NotAfter e.pending.deadline (deadline_in t)) t.rows
