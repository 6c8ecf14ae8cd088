use Rattle.std.proofs.Common.{◌≡◌, ◌+◌, ◌-◌, ◌++◌, length, take, drop, ◌≤◌}
use Rattle.region_model.specs.Iovecs.{total_of, along}
use Rattle.region_model.specs.Regions.{bytes_of, LieInRegion}
use Rattle.shm_region.proofs.region.Region.read_along.Given as goal

abbrev pub invariant-loop-iov : goal.invariant-loop-iov
invariant-loop-iov l =
    (length l.into ≡ length l.fn.into)
    × (l.done ≤ length l.fn.into)
    × (length l.fn.into ≤ l.done + total_of (drop l.iov-index l.iovs))
    × LieInRegion l.self (drop l.iov-index l.iovs)
    × (take l.done l.into ++ take (length l.fn.into - l.done) (along (bytes_of l.self) (drop l.iov-index l.iovs)) ≡ take (length l.fn.into) (along (bytes_of l.self) l.iovs))
