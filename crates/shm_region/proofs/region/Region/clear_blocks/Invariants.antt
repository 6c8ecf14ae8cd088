use Rattle.std.proofs.Common.{◌≡◌, ◌*◌, drop, length}
use Rattle.tcmu_types.specs.Overwriting.{zeros}
use Rattle.region_model.specs.Areas.{written_along}
use Rattle.region_model.specs.Regions.{size_of}
use Rattle.shm_region.proofs.region.Region.clear_blocks.Given as goal

abbrev pub invariant-loop-block : goal.invariant-loop-block
invariant-loop-block l =
    record l.self { blocks = written_along (size_of l.self) l.self.blocks (drop l.block-index l.block-items) (zeros (size_of l.self * length (drop l.block-index l.block-items))) }
    ≡ record l.fn.self { blocks = written_along (size_of l.fn.self) l.fn.self.blocks l.blocks.items (zeros (size_of l.fn.self * length l.blocks.items)) }
