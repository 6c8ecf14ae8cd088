use Rattle.ring_laws.proofs.submitted.Submitted.{ring_submitted, ids_submitted, notes_submitted, blocks_submitted, jobs_submitted, target_submitted_keeps, side_submitted, pages_submitted, sized_submitted}
use Rattle.tcmu_model.proofs.ListsLaid.{lists_submitted}
use Rattle.ring_laws.proofs.submitting.submit_law.Goals as goal

pub returns : goal.returns
returns c =
    record {
      ring = ring_submitted;
      ids = ids_submitted;
      notes = notes_submitted;
      blocks = blocks_submitted;
      jobs = jobs_submitted;
      target = target_submitted_keeps;
      side = side_submitted;
      lists = lists_submitted;
      pages = pages_submitted;
      sized = sized_submitted;
    }
