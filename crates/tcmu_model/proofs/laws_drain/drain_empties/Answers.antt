use Rattle.tcmu_model.proofs.Drained.{drained}
use Rattle.tcmu_model.proofs.DrainEnds.{drain_empties, drain_completes}
use Rattle.tcmu_model.proofs.laws_drain.drain_empties.Goals as goal

pub returns : goal.returns
returns c c' =
    record {
      unfinished = λ device d d' es h a r. (drain_empties _ device d d' es h a r).0;
      delayed = λ device d d' es h a r. (drain_empties _ device d d' es h a r).1;
      complete = λ device d d' es s. drain_completes _ device d d' es s;
      at_rest = drained;
    }
