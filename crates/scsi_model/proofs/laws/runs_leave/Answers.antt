use Rattle.scsi_model.proofs.FileRuns.{runs_leave}
use Rattle.scsi_model.proofs.laws.runs_leave.Goals as goal

pub returns : goal.returns
returns c = runs_leave
