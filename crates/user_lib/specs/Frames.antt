-- What a respond leaves of the region as it is.
use Rattle.std.specs.Prelude.{◌≡◌, ℕ, false, ◌+◌, ◌*◌, List, [], ◌∷◌, length, take, slice_get, Some, None, if◌then◌else◌}
use Rattle.tcmu_types.specs.Lists.{Every, with_first}
use Rattle.tcmu_types.specs.Numbers.{is_among}
use Rattle.tcmu_types.specs.declared.iovec.Iov.{Iov}
use Rattle.region_model.specs.Regions.{RegionState, numbers_of, size_of}
use Rattle.region_model.specs.Sides.{Carried, Copied, GivenJob, JobState, Moved, Parked, UserState}
use Rattle.region_model.specs.UserSteps.{is_open_job, with_parked}
use Rattle.ring_laws.specs.UserKept.{OnlyAnswers}
use Rattle.shm_region.specs.Copies.{LeaveOut}

-- the jobs of the longest front that have their replies
abbrev pub front_jobs : List GivenJob → List JobState
front_jobs [] = []
front_jobs (g ∷ gs) = elim (g.parked) [ None ↦ [] | Some p ↦ p.job ∷ front_jobs gs ]

-- the jobs that a respond answers: just this one out of order, and in order the front that has its replies then
abbrev pub answered_jobs : UserState → Parked → List JobState
answered_jobs u p = if u.flags.ooo then p.job ∷ [] else front_jobs (with_first (is_open_job p.job.id) (with_parked p) u.jobs)

-- Block k of an area is none of a job's: where the job has its blocks, their numbers are others, and where it has a copy, its iovecs name no
-- byte of the block. The area begins at byte `start`.
abbrev pub LeavesBlock : ℕ → ℕ → ℕ → List Iov → Carried → Type 0
LeavesBlock start size k iovs (Moved parts) = is_among (numbers_of start size iovs) k ≡ false
LeavesBlock start size k iovs (Copied bytes) = LeaveOut iovs (start + size * k) size

-- no block changes but those of these jobs
abbrev pub OnlyBlocksOf : List JobState → RegionState → RegionState → Type 0
OnlyBlocksOf jobs r after = (k : ℕ) → Every (λ job. LeavesBlock (length r.front) (size_of r) k job.iovs job.carried) jobs → slice_get after.blocks k ≡ slice_get r.blocks k

-- Before the data area no byte changes but those of the answers, in the first entries that have none, one a job that is answered; and no
-- block but those of these jobs.
pub record ChangesOnly (r : RegionState) (u : UserState) (p : Parked) (after : RegionState) : Type 0 where
  pub front : OnlyAnswers (take (length (answered_jobs u p)) u.offsets) r.front after.front
  pub blocks : OnlyBlocksOf (answered_jobs u p) r after
