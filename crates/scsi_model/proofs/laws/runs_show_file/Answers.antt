use Rattle.scsi_model.proofs.FileRuns.{runs_show_file}
use Rattle.scsi_model.proofs.laws.runs_show_file.Goals as goal

pub returns : goal.returns
returns c = runs_show_file
