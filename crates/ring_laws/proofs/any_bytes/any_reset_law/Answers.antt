use Rattle.ring_laws.proofs.target_over_any_bytes.AnyStops.{reset_empties}
use Rattle.ring_laws.proofs.any_bytes.any_reset_law.Goals as goal

pub returns : goal.returns
returns c = record { empties = reset_empties }
