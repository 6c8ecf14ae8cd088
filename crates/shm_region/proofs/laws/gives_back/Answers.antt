use Rattle.region_model.specs.Regions.{named_by}
use Rattle.shm_region.proofs.Returned.{returned_leaves_home, returned_leaves_others}
use Rattle.shm_region.proofs.laws.gives_back.Goals as goal

pub returns : goal.returns
returns c = record {
  home = λ r iovs parts k block h. returned_leaves_home r.blocks (named_by r iovs) parts k block h;
  others = λ r iovs parts k away. returned_leaves_others r.blocks (named_by r iovs) parts k away;
}
