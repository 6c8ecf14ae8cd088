use Rattle.region_model.specs.Regions.{opening_region}
use Rattle.region_model.specs.TargetSteps.{opening_target}
use Rattle.ring_laws.proofs.target_over_any_bytes.AnyAreas.{in_opening, called_on, same_pages}
use Rattle.ring_laws.proofs.target_over_any_bytes.AnyRing.{front_of_opening}
use Rattle.ring_laws.proofs.any_bytes.area_law.Goals as goal

pub returns : goal.returns
returns c =
    record {
      called = called_on;
      held = λ s calls r t k. (in_opening s calls r t k).there;
      most = λ s calls r t k. (in_opening s calls r t k).most;
      pages = λ s calls r t k. same_pages (opening_region s) (opening_target s) calls r t k;
      front = front_of_opening;
    }
