use Rattle.tcmu_top.proofs.Agreed.{texts_agree}
use Rattle.tcmu_top.proofs.laws.memory_law.Goals as goal

pub returns : goal.returns
returns c = texts_agree
