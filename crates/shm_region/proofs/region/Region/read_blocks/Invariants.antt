use Rattle.std.proofs.Common.{◌≡◌, ◌+◌, ◌≤◌, ◌++◌, drop, take}
use Rattle.region_model.specs.Areas.{bytes_along}
use Rattle.region_model.specs.Regions.{size_of}
use Rattle.shm_region.proofs.region.Region.read_blocks.Given as goal

abbrev pub invariant-loop-block : goal.invariant-loop-block
invariant-loop-block l = record {
  items : l.into.items ++ take l.left (bytes_along (size_of l.self) l.self.blocks (drop l.block-index l.block-items)) ≡ l.fn.into.items ++ take l.count (bytes_along (size_of l.self) l.self.blocks l.blocks.items);
  room : l.left ≤ l.into.spare;
  used : l.fn.into.spare + l.left ≤ l.into.spare + l.count;
}
