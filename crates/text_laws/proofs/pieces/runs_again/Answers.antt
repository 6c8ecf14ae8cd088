use Rattle.text_laws.proofs.Runs.{runs_again}
use Rattle.text_laws.proofs.pieces.runs_again.Goals as goal

pub returns : goal.returns
returns c = runs_again
