use Rattle.std.proofs.Common.{◌≡◌}
use Rattle.thread_examples.proofs.loops.ask_all.Given as goal

abbrev pub invariant-loop-ask : goal.invariant-loop-ask
invariant-loop-ask g l = (l.pass.turn ≡ l.fn.pass.turn) × (l.pass.parts ≡ l.fn.pass.parts)
