use Rattle.std.proofs.Common.{◌≡◌, ◌+◌, drop, take}
use Rattle.tcmu_model.specs.RingState.{front_with, commands_in}
use Rattle.tcmu_path.proofs.ring.front_with.Given as goal

abbrev pub invariant-loop-at : goal.invariant-loop-at
invariant-loop-at l = record {
  rest : l.at + front_with l.left (drop l.at l.items) ≡ front_with l.most l.items;
  commands : commands_in (take l.at l.items) + l.left ≡ l.most;
}
