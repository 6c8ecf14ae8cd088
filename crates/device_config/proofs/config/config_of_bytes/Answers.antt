use Rattle.text_model.specs.Config.{parts_of}
use Rattle.text_model.specs.ScenarioRules.{IsConfig}
use Rattle.text_model.proofs.ConfigLaws.{parts_are}
use Rattle.device_config.proofs.Limits.{kept}
use Rattle.device_config.proofs.config.config_of_bytes.Goals as goal

pub returns-clause-limits : goal.returns-clause-limits
returns-clause-limits c = kept IsConfig c.parts_of.result (parts_of c.args.text.now) c.parts_of.ensures (parts_are c.args.text.now)
