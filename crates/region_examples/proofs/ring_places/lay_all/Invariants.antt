use Rattle.std.proofs.Common.{◌≡◌, ◌≤◌}
use Rattle.region_examples.proofs.ring_places.lay_all.Given as goal

abbrev pub invariant-loop : goal.invariant-loop
invariant-loop l = record { size : l.ring.size ≡ l.fn.ring.size; at_most : l.laid ≤ l.counter }
