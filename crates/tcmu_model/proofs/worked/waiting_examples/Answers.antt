use Rattle.tcmu_model.proofs.Computed.{waits, leaves, stays, waits_reset, waits_busy, waits_drained}
use Rattle.tcmu_model.proofs.worked.waiting_examples.Goals as goal

pub returns : goal.returns
returns c = record { waits = waits; leaves = leaves; stays = stays; waits_reset = waits_reset; waits_busy = waits_busy; waits_drained = waits_drained }
