use Rattle.scsi_model.proofs.Running.{runs_keep}
use Rattle.scsi_model.proofs.laws.runs_keep.Goals as goal

pub returns : goal.returns
returns c = runs_keep
