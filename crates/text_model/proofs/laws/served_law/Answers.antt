use Rattle.text_model.proofs.ServedLaws.{scenario_served}
use Rattle.text_model.proofs.laws.served_law.Goals as goal

pub returns : goal.returns
returns c = scenario_served
