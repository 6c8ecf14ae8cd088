-- Jobs that go back.
use Rattle.std.specs.Prelude.{List, [], ◌∷◌}
use Rattle.region_model.specs.Regions.{RegionState}
use Rattle.region_model.specs.Sides.{InHand}
use Rattle.region_model.specs.UserSteps.{with_job_back}
use Rattle.user_lib.specs.Answering.{GoesBack}

-- the blocks of each are as many as its iovecs name, each of a block's size
abbrev pub AllGoBack : RegionState → List InHand → Type 0
AllGoBack r [] = Unit {0}
AllGoBack r (h ∷ hs) = GoesBack r h.job.iovs h.job.carried × AllGoBack (with_job_back r h.job) hs
