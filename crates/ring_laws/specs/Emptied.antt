-- A reset, as both sides answer it.
use Rattle.std.specs.Prelude.{ℕ, ◌==◌, List, if◌then◌else◌}
use Rattle.tcmu_types.specs.declared.answer.Reset.{Reset}
use Rattle.tcmu_types.specs.declared.answer.Reset.TheVariants as reset
use Rattle.region_model.specs.Regions.{RegionState}
use Rattle.region_model.specs.Sides.{InHand, TargetState, UserState}
use Rattle.region_model.specs.TargetCleans.{target_reset_answer}
use Rattle.ring_laws.specs.Restarted.{count_jobs}

-- only where the target is blocked, and no job is in hand or parked
unfoldable pub reset_answered : RegionState → TargetState → List InHand → UserState → ℕ → Reset
reset_answered r t hand user level =
    if t.blocked
    then (if count_jobs hand user == 0 then reset.Reset (target_reset_answer r t level) else reset.HandlersOut (count_jobs hand user))
    else reset.NotBlocked
