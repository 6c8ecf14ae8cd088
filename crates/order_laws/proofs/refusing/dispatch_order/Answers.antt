use Rattle.order_laws.proofs.Refused.{dispatch_detached}
use Rattle.order_laws.proofs.refusing.dispatch_order.Goals as goal

pub returns : goal.returns
returns c = record { detached_first = dispatch_detached }
