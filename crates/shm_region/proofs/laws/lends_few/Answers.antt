use Rattle.region_model.proofs.Areas.{lent-few}
use Rattle.shm_region.proofs.laws.lends_few.Goals as goal

pub returns : goal.returns
returns c = lent-few
