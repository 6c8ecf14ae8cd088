use Rattle.tcmu_model.proofs.Totals.{open_rest}
use Rattle.tcmu_model.proofs.laws_log.open_law.Goals as goal

pub returns : goal.returns
returns c = open_rest
