use Rattle.std.proofs.Common.{◌≡◌, ◌+◌, ◌-◌, ◌≤◌, length, take, drop}
use Rattle.std.specs.List.{range_with_len}
use Rattle.region_model.specs.Regions.{size_of, returned, HaveSize}
use Rattle.shm_region.proofs.region.Region.back_range.Given as goal

abbrev pub decreases-loop-left : goal.decreases-loop-left
decreases-loop-left l = l.left

abbrev pub invariant-loop-left : goal.invariant-loop-left
invariant-loop-left l =
    (l.left ≤ l.count)
    × (length l.parts.items + l.count ≡ length l.fn.parts.items + l.left)
    × (take (length l.fn.parts.items - l.count) l.parts.items ≡ take (length l.fn.parts.items - l.count) l.fn.parts.items)
    × HaveSize (size_of l.fn.self) l.parts.items
    × (record l.self { blocks = returned l.self.blocks (range_with_len l.first l.left) (drop (length l.fn.parts.items - l.count) l.parts.items) }
    ≡ record l.fn.self { blocks = returned l.fn.self.blocks (range_with_len l.first l.count) (drop (length l.fn.parts.items - l.count) l.fn.parts.items) })
    × (l.parts.spare + l.left ≡ l.fn.parts.spare + l.count)
