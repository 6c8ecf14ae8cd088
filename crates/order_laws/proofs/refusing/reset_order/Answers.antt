use Rattle.order_laws.proofs.Refused.{reset_unblocked}
use Rattle.order_laws.proofs.refusing.reset_order.Goals as goal

pub returns : goal.returns
returns c = record { blocked_first = reset_unblocked }
