use Rattle.tcmu_model.proofs.Computed.{expires, expired_sense, logged_once, not_due, never_due}
use Rattle.tcmu_model.proofs.worked.expiry_examples.Goals as goal

pub returns : goal.returns
returns c = record { expires = expires; expired_sense = expired_sense; logged_once = logged_once; not_due = not_due; never_due = never_due }
