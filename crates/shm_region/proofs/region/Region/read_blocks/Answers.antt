use Rattle.std.proofs.Common.{◌∙◌, arith}
use Rattle.region_model.specs.Regions.{size_of}
use Rattle.shm_region.proofs.AlongBlocks.{read_along_step}
use Rattle.shm_region.proofs.region.Region.read_blocks.Goals as goal

pub loop-block-preserved : goal.loop-block-preserved
loop-block-preserved c = record {
  items =
      read_along_step (size_of c.args.self.now) c.args.self.now.blocks c.as_slice-block-items.result.now c.loop-block.block-index 0 c.loop-block.left c.append_block-left.result
      c.loop-block.into.items c.append_block-left.new.into.items c.loop-block-test.true c.data_off.ensures.limits.sized c.append_block-left.ensures.items c.append_block-left.ensures.count
      ∙ c.loop-block.invariant.items;
  room = omega (arith, c.append_block-left.ensures.room, c.append_block-left.ensures.count, c.loop-block.invariant.room);
  used = omega (arith, c.append_block-left.ensures.room, c.append_block-left.ensures.count, c.loop-block.invariant.used);
}
