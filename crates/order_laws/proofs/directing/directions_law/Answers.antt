use Rattle.order_laws.proofs.Directed.{served_directions, unserved_directions}
use Rattle.order_laws.proofs.directing.directions_law.Goals as goal

pub returns : goal.returns
returns c = record { served = served_directions; unserved = unserved_directions }
