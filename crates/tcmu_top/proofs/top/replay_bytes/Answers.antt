use Rattle.text_model.proofs.ServedLaws.{scenario_served}
use Rattle.tcmu_top.proofs.top.replay_bytes.Goals as goal

pub replay_scenario-requires-clause-served : goal.replay_scenario-requires-clause-served
replay_scenario-requires-clause-served g c = λ κs within. scenario_served _ c.args.bytes.now c.in-Ok.scenario c.in-Ok.ensures.reading
