use Rattle.text_laws.proofs.Replays.{scenario_again}
use Rattle.text_laws.proofs.replay.scenario_replay_law.Goals as goal

pub returns : goal.returns
returns c s = scenario_again _
