use Rattle.order_laws.proofs.Refused.{enter_oldest, enter_ring}
use Rattle.order_laws.proofs.refusing.enter_order.Goals as goal

pub returns : goal.returns
returns c = record { oldest_first = enter_oldest; ring_first = enter_ring }
