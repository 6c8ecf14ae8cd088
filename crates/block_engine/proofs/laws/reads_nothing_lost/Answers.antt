use Rattle.block_engine.proofs.Settling.{reads_nothing_lost}
use Rattle.block_engine.proofs.laws.reads_nothing_lost.Goals as goal

pub returns : goal.returns
returns c = reads_nothing_lost
