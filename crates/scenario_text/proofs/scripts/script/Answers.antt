use Rattle.std.proofs.Common.{rules}
use Rattle.text_model.specs.Script.{script_of}
use Rattle.scenario_text.proofs.Limits.{playable}
use Rattle.scenario_text.proofs.scripts.script.Goals as goal

pub returns-clause-limits : goal.returns-clause-limits
unfolding script_of
returns-clause-limits c = playable _ c.args.scenario.now c.args.device (search rules)
