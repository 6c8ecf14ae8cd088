use Rattle.std.proofs.Common.{rules, arith, ap, ◌+◌, ◌≡◌}
use Rattle.turn_lock.specs.Passes.{PassData}
use Rattle.thread_examples.proofs.loops.join_both.Goals as goal

pub loop-back-preserved : goal.loop-back-preserved
loop-back-preserved c =
    let was = c.loop-back.invariant in
    let step = c.in-Some.ensures.steps in
    let all = was.2 in
    let joined = c.join.ensures.both in
    let one : c.in-Some.back.pass.parts ≡ 1 = let h = all 0 c.in-Some.back in grind rules in
    (search rules, omega (arith, ap (λ (r : PassData _ _). r.parts) joined), (λ k d below. let h = all (k + 1) d in grind rules))
