use Rattle.scsi_model.proofs.Holding.{holds_one}
use Rattle.scsi_model.proofs.laws.holds_one.Goals as goal

pub returns : goal.returns
returns c = holds_one
