use Rattle.std.proofs.Common.{◌≡◌, ◌≤◌, ◌++◌, drop, take, map, length}
use Rattle.tcmu_model.specs.Events.{reset_completion}
use Rattle.delayed_commands.proofs.waiting.DelayedCommands.close.Given as goal

abbrev pub invariant-loop : goal.invariant-loop
invariant-loop l = record {
  items : l.self.items ≡ drop l.counter l.fn.self.items;
  log : l.log.items ≡ l.fn.log.items ++ map (λ w. reset_completion l.level w.serial w.command) (take l.counter l.fn.self.items);
  room : length l.self.items ≤ l.log.spare;
}
