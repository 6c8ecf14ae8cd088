use Rattle.tcmu_model.proofs.ListsRun.{lists_alone}
use Rattle.tcmu_model.proofs.laws_lists.block_lists_alone.Goals as goal

pub returns : goal.returns
returns g c = λ s name name' medium medium' es d d' lists lists'. lists_alone _ _ s name name' medium medium' es d d' lists lists'
