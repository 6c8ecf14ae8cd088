use Rattle.std.proofs.Common.{◌≡◌, ◌≤◌, ◌+◌, ◌++◌, not, drop, take, map, length}
use Rattle.std.specs.List.{filter}
use Rattle.tcmu_model.specs.Events.{departure, has_left}
use Rattle.delayed_commands.proofs.waiting.DelayedCommands.let_go_due.Given as goal

abbrev pub invariant-loop : goal.invariant-loop
invariant-loop l = record {
  items : l.self.items ≡ drop l.counter l.fn.self.items ++ filter (λ w. not (has_left l.now w)) (take l.counter l.fn.self.items);
  log : l.log.items ≡ l.fn.log.items ++ map departure (filter (has_left l.now) (take l.counter l.fn.self.items));
  room : length l.self.items + l.fn.log.spare ≤ l.log.spare + length l.fn.self.items;
}
