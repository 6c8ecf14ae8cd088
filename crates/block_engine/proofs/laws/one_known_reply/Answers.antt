use Rattle.block_engine.proofs.Known.{one_known_reply}
use Rattle.block_engine.proofs.laws.one_known_reply.Goals as goal

pub returns : goal.returns
returns c = one_known_reply
