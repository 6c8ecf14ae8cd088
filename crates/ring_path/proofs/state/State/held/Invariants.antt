use Rattle.std.proofs.Common.{◌+◌, ◌≤◌, length}
use Rattle.ring_path.proofs.Holders.{Tells, behind}
use Rattle.ring_path.proofs.state.State.held.Given as goal

abbrev pub invariant-loop : goal.invariant-loop
invariant-loop l = record {
  told : Tells l.self l.held.items l.serial;
  left : l.counter + length (behind l.serial l.self.state.unfinished) ≤ length l.self.state.unfinished;
}
