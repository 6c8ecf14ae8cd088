use Rattle.std.proofs.Common.{◌≡◌, drop}
use Rattle.ring_laws.specs.SidesShow.{first_serial}
use Rattle.ring_path.specs.Hands.{owes}
use Rattle.ring_path.proofs.tally.next_in.Given as goal

abbrev pub invariant-loop-at : goal.invariant-loop-at
invariant-loop-at l = first_serial (owes l.replied) (drop l.at l.jobs.items) ≡ first_serial (owes l.replied) (drop l.from l.jobs.items)
