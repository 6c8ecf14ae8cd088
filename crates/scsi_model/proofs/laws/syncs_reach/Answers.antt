use Rattle.scsi_model.proofs.Syncing.{syncs_reach}
use Rattle.scsi_model.proofs.laws.syncs_reach.Goals as goal

pub returns : goal.returns
returns c = syncs_reach
