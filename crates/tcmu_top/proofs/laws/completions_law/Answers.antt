use Rattle.tcmu_top.proofs.Completions.{commands_complete, devices_stay}
use Rattle.tcmu_top.proofs.laws.completions_law.Goals as goal

pub returns-clause-completions : goal.returns-clause-completions
returns-clause-completions c = commands_complete

pub returns-clause-devices : goal.returns-clause-devices
returns-clause-devices c = devices_stay
