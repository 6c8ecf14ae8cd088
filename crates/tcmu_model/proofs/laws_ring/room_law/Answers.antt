use Rattle.tcmu_model.proofs.Laying.{empty_takes}
use Rattle.tcmu_model.proofs.laws_ring.room_law.Goals as goal

pub returns : goal.returns
returns c = empty_takes
