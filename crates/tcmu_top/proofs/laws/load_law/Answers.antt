use Rattle.tcmu_top.proofs.OneLine.{has_one_line}
use Rattle.tcmu_top.proofs.laws.load_law.Goals as goal

pub returns : goal.returns
returns c = has_one_line
