use Rattle.block_engine.proofs.Settling.{one_reply_in_memory}
use Rattle.block_engine.proofs.laws.one_reply_in_memory.Goals as goal

pub returns : goal.returns
returns c = one_reply_in_memory
