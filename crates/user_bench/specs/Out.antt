-- The jobs that are out, as the program keeps them.
use Rattle.std.specs.Prelude.{◌≡◌, ◌≢◌, ℕ, ◌≤◌, true, List, [], ◌∷◌}
use Rattle.std.specs.List.{list_any}
use Rattle.tcmu_types.specs.Lists.{Every}
use Rattle.region_model.specs.Regions.{RegionState}
use Rattle.region_model.specs.Sides.{JobState, UserState}
use Rattle.region_model.specs.UserSteps.{is_open_job}
use Rattle.ring_laws.specs.UserKept.{HasPages, HasRing, IsWholeJob}

-- each may be responded, and is of an id of its own
abbrev pub AreOut : UserState → List JobState → Type 0
AreOut u [] = Unit {0}
AreOut u (j ∷ js) = (list_any (is_open_job j.id) u.jobs ≡ true) × IsWholeJob u j × Every (λ x. x.id ≢ j.id) js × AreOut u js

pub record IsBench (r : RegionState) (u : UserState) (jobs : List JobState) (youngest : ℕ) : Type 0 where
  pub ring : HasRing r u
  pub pages : HasPages r u
  pub out : AreOut u jobs
  pub below : Every (λ x. x.id ≤ youngest) jobs
