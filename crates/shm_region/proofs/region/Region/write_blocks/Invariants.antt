use Rattle.std.proofs.Common.{◌≡◌, ◌≤◌, drop, length}
use Rattle.region_model.specs.Areas.{written_along}
use Rattle.region_model.specs.Regions.{size_of}
use Rattle.shm_region.proofs.region.Region.write_blocks.Given as goal

abbrev pub invariant-loop-block : goal.invariant-loop-block
invariant-loop-block l = record {
  region : record l.self { blocks = written_along (size_of l.self) l.self.blocks (drop l.block-index l.block-items) (drop l.done l.bytes) }
      ≡ record l.fn.self { blocks = written_along (size_of l.fn.self) l.fn.self.blocks l.blocks.items l.bytes };
  within : l.done ≤ length l.bytes;
}
