use Rattle.std.proofs.Common.{◌≡◌, ◌+◌, ◌-◌, ◌≤◌, ◌++◌, length, take, drop}
use Rattle.std.specs.List.{range_with_len}
use Rattle.region_model.specs.Regions.{size_of, can_take, taken, without, returned, HaveSize}
use Rattle.shm_region.proofs.region.Region.lend_range.Given as goal

abbrev pub decreases-loop-done : goal.decreases-loop-done
decreases-loop-done l = l.count - l.done

abbrev pub invariant-loop-done : goal.invariant-loop-done
invariant-loop-done l =
    (l.done ≤ l.count)
    × (length l.into.items ≡ length l.fn.into.items + l.done)
    × (l.fn.into.spare ≤ l.into.spare + l.done)
    × (take (length l.fn.into.items) l.into.items ≡ l.fn.into.items)
    × HaveSize (size_of l.fn.self) l.into.items
    × (can_take l.self.blocks (range_with_len (l.first + l.done) (l.count - l.done)) ≡ can_take l.fn.self.blocks (range_with_len l.first l.count))
    × (l.into.items ++ taken l.self.blocks (range_with_len (l.first + l.done) (l.count - l.done)) ≡ l.fn.into.items ++ taken l.fn.self.blocks (range_with_len l.first l.count))
    × (record l.self { blocks = without l.self.blocks (range_with_len (l.first + l.done) (l.count - l.done)) } ≡ record l.fn.self { blocks = without l.fn.self.blocks (range_with_len l.first l.count) })
    × (record l.self { blocks = returned l.self.blocks (range_with_len l.first l.done) (drop (length l.fn.into.items) l.into.items) } ≡ l.fn.self)
