use Rattle.tcmu_model.proofs.Facts.{placed_dispatched}
use Rattle.tcmu_model.proofs.laws_ring.answers_law.Goals as goal

pub returns : goal.returns
returns c = record { published = λ d h. h.answers.published; placed = placed_dispatched }
