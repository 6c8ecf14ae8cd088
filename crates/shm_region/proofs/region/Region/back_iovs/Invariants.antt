use Rattle.std.proofs.Common.{◌≡◌, ◌+◌, ◌≤◌, length, take}
use Rattle.region_model.specs.Regions.{size_of, returned, given_back, HaveSize, numbers_of}
use Rattle.shm_region.proofs.region.Region.back_iovs.Given as goal

abbrev pub decreases-loop-left : goal.decreases-loop-left
decreases-loop-left l = l.left

abbrev pub invariant-loop-left : goal.invariant-loop-left
invariant-loop-left l =
    (l.start ≡ length l.fn.self.front)
    × (l.size ≡ size_of l.fn.self)
    × (l.left ≤ length l.iovs)
    × (length l.parts.items ≡ length (numbers_of (length l.fn.self.front) (size_of l.fn.self) (take l.left l.iovs)))
    × HaveSize (size_of l.fn.self) l.parts.items
    × (record l.self { blocks = returned l.self.blocks (numbers_of (length l.fn.self.front) (size_of l.fn.self) (take l.left l.iovs)) l.parts.items } ≡ given_back l.fn.self l.iovs l.fn.parts.items)
    × (l.parts.spare + length l.parts.items ≡ l.fn.parts.spare + length l.fn.parts.items)
