use Rattle.text_laws.proofs.Configs.{configs_again}
use Rattle.text_laws.proofs.lines.configs_again.Goals as goal

pub returns : goal.returns
returns c = configs_again
