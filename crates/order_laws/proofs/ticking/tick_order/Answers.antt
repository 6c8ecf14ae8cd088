use Rattle.order_laws.proofs.InOrder.{departs_last, expires_first, logged_rise}
use Rattle.order_laws.proofs.ticking.tick_order.Goals as goal

pub returns : goal.returns
returns c = record { departs_last = departs_last; expires_first = expires_first; rise = logged_rise }
