use Rattle.block_engine.proofs.Settling.{some_reply}
use Rattle.block_engine.proofs.laws.some_reply.Goals as goal

pub returns : goal.returns
returns c = some_reply
