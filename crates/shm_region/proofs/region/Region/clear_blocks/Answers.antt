use Rattle.std.proofs.Common.{◌∙◌}
use Rattle.shm_region.proofs.AlongBlocks.{clear_step}
use Rattle.shm_region.proofs.region.Region.clear_blocks.Goals as goal

pub loop-block-preserved : goal.loop-block-preserved
loop-block-preserved c =
    clear_step c.loop-block.self c.clear.new.self c.as_slice-block-items.result.now c.loop-block.block-index 0 c.loop-block-test.true c.data_off.ensures.limits.sized c.clear.ensures
    ∙ c.loop-block.invariant
