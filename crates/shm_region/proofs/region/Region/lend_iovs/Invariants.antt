use Rattle.std.proofs.Common.{◌≡◌, ◌+◌, ◌-◌, ◌≤◌, ◌++◌, length, take, drop}
use Rattle.region_model.specs.Regions.{size_of, can_take, taken, without, returned, lent, parts_of, named_by, HaveSize, numbers_of}
use Rattle.shm_region.proofs.region.Region.lend_iovs.Given as goal

abbrev pub decreases-loop-done : goal.decreases-loop-done
decreases-loop-done l = length l.iovs - l.done

abbrev pub invariant-loop-done : goal.invariant-loop-done
invariant-loop-done l =
    let start = length l.fn.self.front in
    let size = size_of l.fn.self in
    (l.start ≡ start)
    × (l.size ≡ size)
    × (l.done ≤ length l.iovs)
    × (length l.into.items ≡ length (numbers_of start size (take l.done l.iovs)))
    × (length (numbers_of start size (drop l.done l.iovs)) ≤ l.into.spare)
    × HaveSize size l.into.items
    × (can_take l.self.blocks (numbers_of start size (drop l.done l.iovs)) ≡ can_take l.fn.self.blocks (named_by l.fn.self l.iovs))
    × (l.into.items ++ taken l.self.blocks (numbers_of start size (drop l.done l.iovs)) ≡ parts_of l.fn.self l.iovs)
    × (record l.self { blocks = without l.self.blocks (numbers_of start size (drop l.done l.iovs)) } ≡ lent l.fn.self l.iovs)
    × (record l.self { blocks = returned l.self.blocks (numbers_of start size (take l.done l.iovs)) l.into.items } ≡ l.fn.self)
    × (l.fn.into.spare ≤ l.into.spare + length l.into.items)
