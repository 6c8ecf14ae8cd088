use Rattle.block_engine.proofs.Settling.{one_reply}
use Rattle.block_engine.proofs.laws.one_reply.Goals as goal

pub returns : goal.returns
returns c = one_reply
