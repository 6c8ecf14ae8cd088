use Rattle.tcmu_model.proofs.Facts.{publishable_fits, publishable_most}
use Rattle.tcmu_model.proofs.laws_ring.publish_law.Goals as goal

pub returns : goal.returns
returns c = record { dispatched = λ d h. (publishable_fits d h).0; answered = λ d h. (publishable_fits d h).1; greatest = publishable_most }
