use Rattle.ring_laws.proofs.delayed.DelayedKept.{ring_delayed, ids_delayed, notes_delayed, blocks_delayed, jobs_delayed, target_delayed, side_delayed, pages_delayed, region_delayed}
use Rattle.tcmu_model.proofs.HoldersKept.{lists_delayed}
use Rattle.ring_laws.proofs.delaying.delaying_law.Goals as goal

pub returns : goal.returns
returns c =
    record {
      ring = ring_delayed;
      ids = ids_delayed;
      notes = notes_delayed;
      blocks = blocks_delayed;
      jobs = jobs_delayed;
      target = target_delayed;
      side = side_delayed;
      lists = lists_delayed;
      pages = pages_delayed;
      region = region_delayed;
    }
