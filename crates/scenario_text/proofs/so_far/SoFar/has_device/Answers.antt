use Rattle.std.proofs.Common.{◌∙◌, ap, is_some}
use Rattle.scenario_text.proofs.Naming.{any_at_name}
use Rattle.scenario_text.proofs.so_far.SoFar.has_device.Goals as goal

pub returns : goal.returns
returns c = c.is_some.ensures ∙ ap is_some c.device_at.ensures ∙ any_at_name c.args.self.now.devices c.args.name.now
