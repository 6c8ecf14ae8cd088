use Rattle.std.proofs.Common.{◌≡◌, ◌-◌, ◌≤◌, length, drop}
use Rattle.region_model.specs.Regions.{are_whole}
use Rattle.shm_region.proofs.lending.are_whole.Given as goal

abbrev pub decreases-loop-index : goal.decreases-loop-index
decreases-loop-index l = length l.iovs - l.index

abbrev pub invariant-loop-index : goal.invariant-loop-index
invariant-loop-index l = (l.index ≤ length l.iovs) × (are_whole l.start l.size (drop l.index l.iovs) ≡ are_whole l.start l.size l.iovs)
