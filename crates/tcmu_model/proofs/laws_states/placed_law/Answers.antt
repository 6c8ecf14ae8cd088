use Rattle.tcmu_model.proofs.Standing.{finished_gone, placed_there, answered_rows}
use Rattle.tcmu_model.proofs.laws_states.placed_law.Goals as goal

pub returns : goal.returns
returns c = record { finished = finished_gone; unfinished = placed_there; states = answered_rows; in_order = λ d h. h.answers.in_order }
