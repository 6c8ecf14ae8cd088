use Rattle.std.proofs.Common.{◌≡◌, ◌-◌}
use Rattle.tcmu_model.specs.BlockLists.{free_from}
use Rattle.tcmu_model.proofs.plain.first_free.Given as goal

-- no number before is free
abbrev pub invariant-loop-number : goal.invariant-loop-number
invariant-loop-number l = free_from l.held 0 l.limit ≡ free_from l.held l.number (l.limit - l.number)
