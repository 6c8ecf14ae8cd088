use Rattle.text_model.proofs.ScenarioLaws.{scenario_is}
use Rattle.text_model.proofs.laws.scenario_law.Goals as goal

pub returns : goal.returns
returns c = scenario_is
