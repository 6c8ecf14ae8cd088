use Rattle.ring_laws.proofs.notes.Noted.{tmr_same, ring_noted, ids_noted, notes_noted, blocks_noted, jobs_noted, target_noted_keeps, side_noted, pages_noted, sized_noted, unnoted_same}
use Rattle.tcmu_model.proofs.ListsRun.{lists_noted}
use Rattle.ring_laws.proofs.noting.tmr_law.Goals as goal

pub returns : goal.returns
returns c =
    record {
      answer = tmr_same;
      ring = ring_noted;
      ids = ids_noted;
      notes = notes_noted;
      blocks = blocks_noted;
      jobs = jobs_noted;
      target = target_noted_keeps;
      side = side_noted;
      lists = lists_noted;
      pages = pages_noted;
      sized = sized_noted;
      refused = unnoted_same;
    }
