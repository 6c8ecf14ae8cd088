use Rattle.std.proofs.Common.{◌≡◌, ◌++◌, drop, take, map}
use Rattle.tcmu_model.specs.Events.{expire}
use Rattle.tcmu_path.proofs.rows.expire_each.Given as goal

abbrev pub invariant-loop-at : goal.invariant-loop-at
invariant-loop-at l = record {
  items : l.rows.items ≡ map (expire l.now) (take l.at l.fn.rows.items) ++ drop l.at l.fn.rows.items;
  len : l.rows.len ≡ l.fn.rows.len;
}
