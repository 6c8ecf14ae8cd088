use Rattle.std.proofs.Common.{◌≡◌, drop}
use Rattle.tcmu_model.specs.Events.{unknown_serial}
use Rattle.tcmu_path.proofs.rows.unknown.Given as goal

abbrev pub invariant-loop-serial : goal.invariant-loop-serial
invariant-loop-serial l = unknown_serial l.rows.items (drop l.serial-index l.serials) ≡ unknown_serial l.rows.items l.serials
