use Rattle.std.proofs.Common.{◌≡◌, ◌≤◌, ◌+◌, All, vec_len, vec_capacity}
use Rattle.std.specs.Vec.Iter.{into_iter_items, into_iter_len}
use Rattle.daemon_gate.proofs.beside.start_all.Given as goal

abbrev pub invariant-loop-lane : goal.invariant-loop-lane
invariant-loop-lane g l =
    let rest = l.lane-iterator in
    All (g.L.Lane.ready l.about) (into_iter_items rest)
    × (vec_len l.running + vec_len l.dones + into_iter_len rest ≡ vec_len l.fn.lanes)
    × (vec_len l.fn.lanes ≤ vec_capacity l.running) × (vec_len l.fn.lanes ≤ vec_capacity l.dones)
    × All (λ h. h.promise.about.value ≡ l.about) l.running.items
    × All (g.L.Lane.done l.about) l.dones.items
