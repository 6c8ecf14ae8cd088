use Rattle.block_engine.proofs.Settling.{whole_reply}
use Rattle.block_engine.proofs.laws.whole_reply.Goals as goal

pub returns : goal.returns
returns c = whole_reply
