use Rattle.tcmu_model.proofs.Standing.{in_hand_rows, awaiting}
use Rattle.tcmu_model.proofs.laws_states.in_hand_law.Goals as goal

pub returns : goal.returns
returns c = record { states = in_hand_rows; owed = awaiting }
