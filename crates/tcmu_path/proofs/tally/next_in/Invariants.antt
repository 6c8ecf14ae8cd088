use Rattle.std.proofs.Common.{◌≡◌, drop}
use Rattle.tcmu_path.specs.Tallies.{least_in}
use Rattle.tcmu_path.proofs.tally.next_in.Given as goal

abbrev pub invariant-loop-at : goal.invariant-loop-at
invariant-loop-at l = least_in l.state (drop l.at l.rows.items) ≡ least_in l.state (drop l.from l.rows.items)
