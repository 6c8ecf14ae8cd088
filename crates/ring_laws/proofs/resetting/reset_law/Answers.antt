use Rattle.ring_laws.proofs.emptied.EmptiedKept.{answer_reset, logged_reset, ring_reset, ids_reset, notes_reset, blocks_reset, jobs_reset, hand_reset, target_reset_keeps, side_reset, attached_reset, reattached_reset, lists_reset, kept_reset, pages_reset}
use Rattle.tcmu_model.proofs.ResetMade.{not_blocked_same, handlers_out_same}
use Rattle.ring_laws.proofs.resetting.reset_law.Goals as goal

pub returns : goal.returns
returns c =
    record {
      answer = answer_reset;
      logged = logged_reset;
      ring = ring_reset;
      ids = ids_reset;
      notes = notes_reset;
      blocks = blocks_reset;
      jobs = jobs_reset;
      hand = hand_reset;
      target = target_reset_keeps;
      side = side_reset;
      lists = lists_reset;
      kept = kept_reset;
      pages = pages_reset;
      attached = attached_reset;
      reattached = reattached_reset;
      not_blocked = not_blocked_same;
      handlers_out = handlers_out_same;
    }
