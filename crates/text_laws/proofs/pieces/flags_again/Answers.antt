use Rattle.text_laws.proofs.Flags.{flags_again}
use Rattle.text_laws.proofs.pieces.flags_again.Goals as goal

pub returns : goal.returns
returns c = flags_again
