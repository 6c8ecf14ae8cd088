use Rattle.std.proofs.Common.{◌≡◌, take}
use Rattle.std.specs.List.{sum_by}
use Rattle.target_side.proofs.places.Places.item.Given as goal

abbrev pub invariant-loop-earlier : goal.invariant-loop-earlier
invariant-loop-earlier l = l.before ≡ sum_by (λ x. x.len) (take l.earlier l.self.ring.items)
