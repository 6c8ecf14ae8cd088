use Rattle.block_engine.proofs.Settling.{request_runs}
use Rattle.block_engine.proofs.laws.request_runs.Goals as goal

pub returns : goal.returns
returns c = request_runs
