use Rattle.std.proofs.Common.{◌≡◌, ◌-◌, ◌≤◌, length, Some, ◌++◌, replicate, max}
use Rattle.tcmu_types.specs.Overwriting.{zeros}
use Rattle.region_model.specs.Regions.{size_of}
use Rattle.shm_region.proofs.region.Region.grow.Given as goal

abbrev pub invariant-loop : goal.invariant-loop
invariant-loop l =
    (l.before ≡ length l.fn.self.blocks)
    × (l.self ≡ record l.fn.self { blocks = l.fn.self.blocks ++ replicate (l.counter - l.before) (Some (zeros (size_of l.fn.self))) })
    × (l.counter ≤ max l.before l.blocks)
