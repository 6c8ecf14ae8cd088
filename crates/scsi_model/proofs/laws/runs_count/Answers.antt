use Rattle.scsi_model.proofs.Running.{runs_count}
use Rattle.scsi_model.proofs.laws.runs_count.Goals as goal

pub returns : goal.returns
returns c = runs_count
