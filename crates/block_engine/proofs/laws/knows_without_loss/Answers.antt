use Rattle.block_engine.proofs.Known.{knows_without_loss}
use Rattle.block_engine.proofs.laws.knows_without_loss.Goals as goal

pub returns : goal.returns
returns c = knows_without_loss
