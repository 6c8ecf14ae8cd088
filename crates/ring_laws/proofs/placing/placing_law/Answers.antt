use Rattle.ring_laws.proofs.placed.Numbered.{can_answer}
use Rattle.ring_laws.proofs.placed.PlacedAnswers.{notes_placed, ring_placed, ids_placed, target_placed, user_placed, offsets_placed, can_placed}
use Rattle.ring_laws.proofs.placed.AnswerBlocks.{blocks_placed, can_fill, fill_placed}
use Rattle.ring_laws.proofs.placing.placing_law.Goals as goal

pub returns : goal.returns
returns c =
    record {
      ring = ring_placed;
      ids = ids_placed;
      notes = notes_placed;
      blocks = blocks_placed;
      offsets = offsets_placed;
      target = target_placed;
      side = user_placed;
      answering = can_answer;
      answering_again = can_placed;
      filling = can_fill;
      filling_again = fill_placed;
    }
