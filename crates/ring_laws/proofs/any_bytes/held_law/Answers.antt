use Rattle.ring_laws.proofs.target_over_any_bytes.AnyCalls.{sound_from_opening}
use Rattle.ring_laws.proofs.target_over_any_bytes.AnySettings.{blocks_below}
use Rattle.ring_laws.proofs.any_bytes.held_law.Goals as goal

pub returns : goal.returns
returns c =
    record {
      range = λ s calls t k. (sound_from_opening s calls t k).rows.range;
      ids = λ s calls t k. (sound_from_opening s calls t k).rows.ids;
      blocks = λ s calls t k. (sound_from_opening s calls t k).rows.blocks;
      below = blocks_below;
    }
