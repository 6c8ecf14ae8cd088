use Rattle.std.proofs.Common.{ap, List, Option, ℕ}
use Rattle.region_model.specs.Regions.{named_by}
use Rattle.shm_region.proofs.Lent.{lends_back, second_true}
use Rattle.shm_region.proofs.laws.lends_and_takes_back.Goals as goal

pub returns : goal.returns
returns c = λ r iovs can.
    ap (λ (w : List (Option (List ℕ))). record r { blocks = w }) (lends_back r.blocks (named_by r iovs) (second_true _ _ can))
