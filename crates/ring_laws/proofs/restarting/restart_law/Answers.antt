use Rattle.ring_laws.proofs.restarted.RestartedAnswer.{answer_restarted}
use Rattle.ring_laws.proofs.restarted.RestartedKept.{ring_restarted, ids_restarted, notes_restarted, blocks_restarted, jobs_restarted, target_restarted, side_restarted, pages_restarted}
use Rattle.ring_laws.proofs.sized.Sized.{sized_restarted}
use Rattle.tcmu_model.proofs.HoldersKept.{lists_restarted}
use Rattle.ring_laws.proofs.restarting.restart_law.Goals as goal

pub returns : goal.returns
returns c =
    record {
      answer = answer_restarted;
      ring = ring_restarted;
      ids = ids_restarted;
      notes = notes_restarted;
      blocks = blocks_restarted;
      jobs = jobs_restarted;
      target = target_restarted;
      side = side_restarted;
      lists = lists_restarted;
      pages = pages_restarted;
      sized = sized_restarted;
    }
