use Rattle.std.proofs.Common.{◌≡◌, sym, subst}
use Rattle.tcmu_types.specs.Data.{SettingsData}
use Rattle.region_model.specs.Regions.{RegionState, opening_region}
use Rattle.region_model.specs.Sides.{TargetState}
use Rattle.region_model.specs.TargetSteps.{opening_target}
use Rattle.target_side.specs.Kept.{Fits}
use Rattle.target_side.proofs.Keeps.{fits_opened}
use Rattle.target_bench.proofs.bench.Bench.new.Goals as goal

-- a new region, and the target of the same settings
fits_new : (s : SettingsData) (r : RegionState) (t : TargetState) → r ≡ opening_region s → t ≡ opening_target s → Fits r t
fits_new s r t e f = subst (λ (x : TargetState). Fits r x) (sym f) (subst (λ (x : RegionState). Fits x (opening_target s)) (sym e) (fits_opened s))

pub invariant_of-result : goal.invariant_of-result
invariant_of-result c = fits_new _ _ _ c.in_ok-new.ensures c.in_ok-new-2.ensures
