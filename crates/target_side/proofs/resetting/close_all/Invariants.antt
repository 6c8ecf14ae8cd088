use Rattle.std.proofs.Common.{◌≡◌, ◌≤◌, ◌+◌, ◌++◌, not, drop, take, map}
use Rattle.std.specs.List.{filter}
use Rattle.region_model.specs.TargetCleans.{reset_log}
use Rattle.target_side.specs.Books.{to_log}
use Rattle.target_side.proofs.resetting.close_all.Given as goal

abbrev pub invariant-loop : goal.invariant-loop
invariant-loop l = record {
  rows : l.commands ≡ record l.fn.commands { rows = drop l.counter l.fn.commands.rows };
  log : l.log.items ≡ l.fn.log.items ++ map (λ e. reset_log l.level e.pending) (filter (λ e. not e.pending.expired) (take l.counter l.fn.commands.rows));
  room : to_log l.commands.rows + l.fn.log.spare ≤ l.log.spare + to_log l.fn.commands.rows;
}
