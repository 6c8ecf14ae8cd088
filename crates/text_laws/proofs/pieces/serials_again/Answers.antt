use Rattle.text_laws.proofs.Lists.{serials_again}
use Rattle.text_laws.proofs.pieces.serials_again.Goals as goal

pub returns : goal.returns
returns c = serials_again
