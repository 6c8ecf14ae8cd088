use Rattle.text_laws.proofs.Dumped.{dumps_told}
use Rattle.text_laws.proofs.lines.dumps_told.Goals as goal

pub returns : goal.returns
returns c = dumps_told
