use Rattle.std.proofs.Common.{◌-◌, ◌≤◌, ◌+◌}
use Rattle.std.specs.List.{count_by}
use Rattle.target_table.specs.Rows.{is_expired}
use Rattle.target_side.specs.Books.{to_log}
use Rattle.target_side.proofs.Expires.{Expiring}
use Rattle.target_side.proofs.ticking.expire_due.Given as goal

abbrev pub invariant-loop : goal.invariant-loop
invariant-loop l = record {
  steps : Expiring l.now l.fn.commands l.fn.log.items (l.counter - count_by is_expired l.fn.commands.rows) l.commands l.log.items;
  room : to_log l.commands.rows + l.fn.log.spare ≤ l.log.spare + to_log l.fn.commands.rows;
  from : count_by is_expired l.fn.commands.rows ≤ l.counter;
}
