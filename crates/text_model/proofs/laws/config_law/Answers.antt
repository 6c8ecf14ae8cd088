use Rattle.text_model.proofs.ConfigLaws.{config_is}
use Rattle.text_model.proofs.laws.config_law.Goals as goal

pub returns : goal.returns
returns c = config_is
