use Rattle.tcmu_model.proofs.Computed.{ring_fills, exactly_full, blocks_fill, blocks_free, too_long, long_enough, too_many_blocks}
use Rattle.tcmu_model.proofs.worked.room_examples.Goals as goal

pub returns : goal.returns
returns c = record { ring_fills = ring_fills; exactly_full = exactly_full; blocks_fill = blocks_fill; blocks_free = blocks_free; too_long = too_long; long_enough = long_enough; too_many_blocks = too_many_blocks }
