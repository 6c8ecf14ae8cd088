use Rattle.text_laws.proofs.Hex.{cdb_again}
use Rattle.text_laws.proofs.pieces.cdbs_again.Goals as goal

pub returns : goal.returns
returns c = cdb_again
