use Rattle.std.proofs.Common.{◌≡◌, ◌≤◌, ◌+◌, All, vec_len, vec_capacity}
use Rattle.std.specs.Vec.Iter.{into_iter_items, into_iter_len}
use Rattle.daemon_gate.proofs.beside.join_all.Given as goal

abbrev pub invariant-loop-child : goal.invariant-loop-child
invariant-loop-child g l =
    let rest = l.child-iterator in
    (vec_len l.dones + into_iter_len rest ≡ vec_len l.fn.running + vec_len l.fn.dones)
    × (vec_len l.fn.running + vec_len l.fn.dones ≤ vec_capacity l.dones)
    × All (λ h. h.promise.about.value ≡ l.fn.about) (into_iter_items rest)
    × All (g.L.Lane.done l.fn.about) l.dones.items
