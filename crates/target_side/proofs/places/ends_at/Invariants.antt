use Rattle.std.proofs.Common.{◌≡◌, ◌≤◌, drop}
use Rattle.region_model.specs.TargetCleans.{ends_at}
use Rattle.target_side.proofs.places.ends_at.Given as goal

abbrev pub invariant-loop-index : goal.invariant-loop-index
invariant-loop-index l = record {
  same : ends_at l.ring l.at (drop l.index l.items.items) l.tail ≡ ends_at l.ring l.start l.items.items l.tail;
  small : l.at ≤ 4294967295;
}
