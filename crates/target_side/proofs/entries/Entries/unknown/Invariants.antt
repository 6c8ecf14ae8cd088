use Rattle.std.proofs.Common.{◌≡◌, drop}
use Rattle.region_model.specs.TargetSteps.{unknown_in}
use Rattle.target_side.proofs.entries.Entries.unknown.Given as goal

abbrev pub invariant-loop-serial : goal.invariant-loop-serial
invariant-loop-serial l = unknown_in l.self.commands.rows (drop l.serial-index l.serials.items) ≡ unknown_in l.self.commands.rows l.serials.items
