use Rattle.block_engine.proofs.Settling.{stays_told}
use Rattle.block_engine.proofs.laws.stays_told.Goals as goal

pub returns : goal.returns
returns c = stays_told
