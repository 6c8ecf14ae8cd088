use Rattle.tcmu_model.proofs.Facts.{delayed_above}
use Rattle.tcmu_model.proofs.laws_log.delayed_law.Goals as goal

pub returns : goal.returns
returns c = delayed_above
