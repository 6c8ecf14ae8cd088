use Rattle.ring_laws.proofs.parked.ParkedJobs.{jobs_parked}
use Rattle.ring_laws.proofs.parked.ParkedKept.{ring_parked, ids_parked, notes_parked, blocks_parked, target_parked, side_parked, can_answer_parked, can_fill_parked, found_parked}
use Rattle.tcmu_model.specs.declared.state.CommandState.TheVariants.{Handled, Parked}
use Rattle.tcmu_model.proofs.HoldersKept.{lists_turned}
use Rattle.ring_laws.proofs.parking.parking_law.Goals as goal

pub returns : goal.returns
returns c =
    record {
      ring = ring_parked;
      ids = ids_parked;
      notes = notes_parked;
      blocks = blocks_parked;
      jobs = jobs_parked;
      target = target_parked;
      side = side_parked;
      lists = λ d lists s. lists_turned d lists s Handled Parked;
      answering = can_answer_parked;
      filling = can_fill_parked;
      found = found_parked;
    }
