use Rattle.ring_laws.proofs.target_over_any_bytes.AnyRing.{ring_of_opening, ring_called, laid_within, front_called}
use Rattle.ring_laws.proofs.any_bytes.any_ring_law.Goals as goal

pub returns : goal.returns
returns c =
    record {
      all = ring_of_opening;
      each = ring_called;
      pad_room = λ t n s h f. (laid_within t n s h f).pad_room;
      whole = λ t n s h f. (laid_within t n s h f).whole;
      front = front_called;
    }
