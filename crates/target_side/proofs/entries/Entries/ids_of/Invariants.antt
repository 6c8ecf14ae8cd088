use Rattle.std.proofs.Common.{◌≡◌, ◌≤◌, ◌+◌, length, take}
use Rattle.region_model.specs.TargetSteps.{ids_of}
use Rattle.target_side.proofs.entries.Entries.ids_of.Given as goal

abbrev pub invariant-loop-serial : goal.invariant-loop-serial
invariant-loop-serial l = record {
  items : l.ids.items ≡ ids_of l.self.commands.rows (take l.serial-index l.serials.items);
  room : length l.serials.items ≤ l.ids.spare + l.serial-index;
}
