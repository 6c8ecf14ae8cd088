use Rattle.block_engine.proofs.Settling.{one_reply_without_loss}
use Rattle.block_engine.proofs.laws.one_reply_without_loss.Goals as goal

pub returns : goal.returns
returns c = one_reply_without_loss
