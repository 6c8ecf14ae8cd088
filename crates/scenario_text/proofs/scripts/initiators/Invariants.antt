use Rattle.std.proofs.Common.{◌≡◌, drop}
use Rattle.text_model.specs.Scenario.{initiators, initiators_from}
use Rattle.scenario_text.proofs.scripts.initiators.Given as goal

abbrev pub invariant-loop-line : goal.invariant-loop-line
invariant-loop-line l = initiators_from l.device l.names (drop l.line-index l.lines) ≡ initiators l.device l.lines
