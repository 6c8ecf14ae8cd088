use Rattle.tcmu_model.proofs.Facts.{count_rows, bounded_rows}
use Rattle.tcmu_model.proofs.laws_ring.ring_law.Goals as goal

pub returns : goal.returns
returns c = record { count = count_rows; bound = bounded_rows; ends = λ d h. h.ring.ends }
