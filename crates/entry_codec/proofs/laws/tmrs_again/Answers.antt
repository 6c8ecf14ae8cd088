use Rattle.entry_codec.proofs.Again.{tmr_again}
use Rattle.entry_codec.proofs.laws.tmrs_again.Goals as goal

pub returns : goal.returns
returns c = tmr_again
