use Rattle.std.proofs.Common.{◌≡◌, drop, max}
use Rattle.tcmu_types.specs.Numbers.{above_all}
use Rattle.target_side.proofs.commands.area_for.Given as goal

abbrev pub invariant-loop-block : goal.invariant-loop-block
invariant-loop-block l = max l.end (above_all (drop l.block-index l.blocks)) ≡ above_all l.blocks
