use Rattle.text_laws.proofs.Lists.{rising_again}
use Rattle.text_laws.proofs.pieces.rising_again.Goals as goal

pub returns : goal.returns
returns c = rising_again
