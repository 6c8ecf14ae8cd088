-- A restart: every job goes back, with its blocks as they are.
use Rattle.std.specs.Prelude.{ℕ, ◌+◌, ◌-◌, Bool, List, [], ◌∷◌, length, if◌then◌else◌}
use Rattle.std.specs.List.{count_by}
use Rattle.std.specs.Option.{is_some}
use Rattle.region_model.specs.Regions.{RegionState}
use Rattle.region_model.specs.Sides.{GivenJob, InHand, UserState}
use Rattle.region_model.specs.UserSteps.{region_abandoned, with_job_back}

-- the blocks of all jobs in hand go back
abbrev pub region_with_hand : RegionState → List InHand → RegionState
region_with_hand r [] = r
region_with_hand r (h ∷ hs) = region_with_hand (with_job_back r h.job) hs

-- and then, as the user side gives up its jobs, those of all parked jobs
unfoldable pub region_restarted : RegionState → List InHand → UserState → RegionState
region_restarted r hand user = region_abandoned (region_with_hand r hand) user.jobs

abbrev pub count_parked : List GivenJob → ℕ
count_parked jobs = count_by (λ g. is_some g.parked) jobs

-- the jobs that are not placed: those in hand, and those that are parked
abbrev pub count_jobs : List InHand → UserState → ℕ
count_jobs hand user = length hand + count_parked user.jobs

-- On an attached device these jobs are lost, and the answers that are placed and not published.
unfoldable pub restarted_answer : Bool → List InHand → UserState → ℕ
restarted_answer attached hand user = if attached then count_jobs hand user + (user.placed - user.published) else 0
