-- What every target keeps, whatever bytes the user side leaves in the region.
use Rattle.std.specs.Prelude.{◌≡◌, ◌*◌, ◌≤◌, length}
use Rattle.tcmu_types.specs.Rules.{IsSettings}
use Rattle.tcmu_types.specs.Lists.{Every}
use Rattle.region_model.specs.Layout.{data_start}
use Rattle.region_model.specs.Regions.{RegionState}
use Rattle.region_model.specs.Sides.{TargetState}
use Rattle.region_model.specs.TargetSteps.{length_in}
use Rattle.ring_laws.specs.Calls.{TargetSound}
use Rattle.ring_laws.specs.DatesKept.{DatesKept}
use Rattle.ring_laws.specs.RingKept.{RingKept, RowsKept}

-- the region has the bytes before its data area, and the pages of a block, of the target's settings
pub record Fits (r : RegionState) (t : TargetState) : Type 0 where
  pub front : length r.front ≡ data_start t.settings.ring
  pub pages : r.pages ≡ t.settings.pages

pub record Kept (t : TargetState) : Type 0 where
  pub settings : IsSettings t.settings
  pub sound : TargetSound t
  pub ring : RingKept t
  pub rows : RowsKept t
  pub dates : DatesKept t
  -- no command that waits is longer than half the ring
  pub waiting : Every (λ w. 2 * length_in t w.command ≤ t.settings.ring) t.delayed
