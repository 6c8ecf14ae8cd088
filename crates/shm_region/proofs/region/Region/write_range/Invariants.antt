use Rattle.std.proofs.Common.{◌≡◌, ◌+◌, ◌*◌, length, take, drop, ◌++◌}
use Rattle.region_model.specs.Regions.{size_of, blocks_over, wrote}
use Rattle.shm_region.proofs.region.Region.write_range.Given as goal

abbrev pub invariant-loop-index : goal.invariant-loop-index
invariant-loop-index l =
    (length l.self.blocks ≡ length l.fn.self.blocks)
    × (record l.self { blocks = take l.index l.self.blocks ++ blocks_over (length l.self.front + size_of l.self * l.index) (size_of l.self) l.at l.bytes (drop l.index l.self.blocks) } ≡ wrote l.fn.self l.at l.bytes)
