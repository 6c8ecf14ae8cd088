use Rattle.std.proofs.Common.{◌≡◌, ◌+◌, All, vec_len}
use Rattle.std.specs.Vec.Iter.{into_iter_items, into_iter_len}
use Rattle.thread_examples.proofs.loops.join_both.Given as goal

abbrev pub invariant-loop-back : goal.invariant-loop-back
invariant-loop-back l =
    let rest = l.back-iterator in
    (l.pass.turn ≡ l.fn.turn.turn) × (l.pass.parts + into_iter_len rest ≡ l.fn.pass.parts + vec_len l.fn.backs)
    × All (λ x. (x.pass.turn ≡ l.fn.turn.turn) × (x.pass.parts ≡ 1)) (into_iter_items rest)
