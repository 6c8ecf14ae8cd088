use Rattle.std.proofs.Common.{◌≡◌, ◌+◌, ◌-◌, length, drop, min, ◌≤◌}
use Rattle.region_model.specs.Iovecs.{total_of, EndBelow}
use Rattle.region_model.specs.Regions.{copied_in}
use Rattle.shm_region.proofs.region.Region.write_along.Given as goal

abbrev pub invariant-loop-iov : goal.invariant-loop-iov
invariant-loop-iov l =
    (copied_in l.self (drop l.iov-index l.iovs) l.rest ≡ copied_in l.fn.self l.iovs l.bytes)
    × (length l.rest ≤ length l.bytes)
    × (length l.bytes - length l.rest + min (length l.rest) (total_of (drop l.iov-index l.iovs)) ≡ min (length l.bytes) (total_of l.iovs))
    × EndBelow (drop l.iov-index l.iovs)
