use Rattle.ring_laws.proofs.entered.Entered.{serial_entered, ring_entered, ids_entered, notes_entered, blocks_entered, jobs_entered, target_entered_keeps, side_entered, pages_entered, sized_entered}
use Rattle.tcmu_model.proofs.ListsLaid.{lists_entered}
use Rattle.ring_laws.proofs.entering.enter_law.Goals as goal

pub returns : goal.returns
returns c =
    record {
      serial = serial_entered;
      ring = ring_entered;
      ids = ids_entered;
      notes = notes_entered;
      blocks = blocks_entered;
      jobs = jobs_entered;
      target = target_entered_keeps;
      side = side_entered;
      lists = lists_entered;
      pages = pages_entered;
      sized = sized_entered;
    }
