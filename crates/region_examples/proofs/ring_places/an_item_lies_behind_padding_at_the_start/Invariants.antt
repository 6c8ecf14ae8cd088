use Rattle.std.proofs.Common.{◌≡◌}
use Rattle.region_examples.proofs.ring_places.an_item_lies_behind_padding_at_the_start.Given as goal

abbrev pub invariant-loop : goal.invariant-loop
invariant-loop g l = l.ring.size ≡ 4096
