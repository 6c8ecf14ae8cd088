use Rattle.tcmu_model.proofs.Facts.{waiting_undispatched, waiting_rows}
use Rattle.tcmu_model.proofs.laws_states.waiting_law.Goals as goal

pub returns : goal.returns
returns c = record { states = waiting_undispatched; order = waiting_rows }
