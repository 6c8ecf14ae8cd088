use Rattle.std.proofs.Common.{◌≤◌, ◌≡◌, ◌+◌, length, drop}
use Rattle.region_model.specs.Regions.{size_of, numbers_of}
use Rattle.shm_region.proofs.region.Region.room_for.Given as goal

abbrev pub invariant-loop-iov : goal.invariant-loop-iov
invariant-loop-iov l = record {
  size : l.size ≡ size_of l.self;
  named : l.total + length (numbers_of (length l.self.front) (size_of l.self) (drop l.iov-index l.iov-items)) ≡ length (numbers_of (length l.self.front) (size_of l.self) l.iovs.items);
  few : l.total ≤ length l.self.blocks;
}
