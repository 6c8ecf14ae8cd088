use Rattle.scsi_model.proofs.Lossless.{runs_stay_lossless}
use Rattle.scsi_model.proofs.laws.runs_stay_lossless.Goals as goal

pub returns : goal.returns
returns c = runs_stay_lossless
