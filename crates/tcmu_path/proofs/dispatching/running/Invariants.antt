use Rattle.std.proofs.Common.{◌≡◌, ◌≤◌, ◌+◌, take, length}
use Rattle.std.specs.List.{filter}
use Rattle.tcmu_model.specs.Events.{is_running}
use Rattle.tcmu_path.proofs.dispatching.running.Given as goal

abbrev pub invariant-loop-serial : goal.invariant-loop-serial
invariant-loop-serial l = record {
  list : l.listed.items ≡ filter (is_running l.rows.items) (take l.serial-index l.serials);
  room : length l.serials ≤ l.listed.spare + l.serial-index;
}
