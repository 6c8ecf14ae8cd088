use Rattle.order_laws.proofs.Refused.{submit_busy, submit_long, submit_ring, submit_waiting}
use Rattle.order_laws.proofs.refusing.submit_order.Goals as goal

pub returns : goal.returns
returns c = record { busy_first = submit_busy; length_first = submit_long; ring_first = submit_ring; waiting_first = submit_waiting }
