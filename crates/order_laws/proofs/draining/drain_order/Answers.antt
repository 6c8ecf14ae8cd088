use Rattle.order_laws.proofs.Chosen.{chosen_applies, first_turn, goes_on, least_handled, least_out}
use Rattle.order_laws.proofs.draining.drain_order.Goals as goal

pub returns : goal.returns
returns c = record { applies = chosen_applies; goes_on = goes_on; first = first_turn; least_out = least_out; least_handled = least_handled }
