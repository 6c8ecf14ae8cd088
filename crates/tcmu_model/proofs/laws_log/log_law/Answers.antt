use Rattle.tcmu_model.proofs.Accounts.{log_differs, log_accepted, each_once, expired_logged}
use Rattle.tcmu_model.proofs.laws_log.log_law.Goals as goal

pub returns : goal.returns
returns c = record { differs = log_differs; accepted = log_accepted; once = each_once; expired = expired_logged }
