use Rattle.text_laws.proofs.Numbers.{number_within_again}
use Rattle.text_laws.proofs.pieces.numbers_again.Goals as goal

pub returns : goal.returns
returns c = number_within_again
