use Rattle.std.proofs.Common.{◌≡◌, ◌≤◌, ◌+◌, ◌++◌, drop, take, map}
use Rattle.std.specs.List.{filter, count_by}
use Rattle.tcmu_model.specs.Events.{expiry, is_due}
use Rattle.tcmu_path.proofs.books.log_due.Given as goal

abbrev pub invariant-loop-at : goal.invariant-loop-at
invariant-loop-at l = record {
  log : l.log.items ≡ l.fn.log.items ++ map expiry (filter (is_due l.now) (take l.at l.rows.items));
  room : count_by (is_due l.now) (drop l.at l.rows.items) ≤ l.log.spare;
  kept : l.fn.log.spare + count_by (is_due l.now) (drop l.at l.rows.items) ≤ l.log.spare + count_by (is_due l.now) l.rows.items;
}
