use Rattle.text_laws.proofs.Hex.{bytes_again}
use Rattle.text_laws.proofs.pieces.hex_again.Goals as goal

pub returns : goal.returns
returns c = bytes_again
