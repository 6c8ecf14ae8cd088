use Rattle.std.proofs.Common.{◌≡◌, ◌≤◌, ◌+◌, ◌++◌, drop, take, map}
use Rattle.std.specs.List.{filter}
use Rattle.tcmu_model.specs.Events.{reset_completion, is_open}
use Rattle.tcmu_path.specs.Room.{to_log}
use Rattle.tcmu_path.proofs.books.log_open.Given as goal

abbrev pub invariant-loop-at : goal.invariant-loop-at
invariant-loop-at l = record {
  log : l.log.items ≡ l.fn.log.items ++ map (λ u. reset_completion l.level u.serial u.command) (filter is_open (take l.at l.rows.items));
  room : to_log (drop l.at l.rows.items) ≤ l.log.spare;
  spent : l.fn.log.spare + to_log (drop l.at l.rows.items) ≤ l.log.spare + to_log l.rows.items;
}
