use Rattle.std.proofs.Common.{◌≡◌, take, map}
use Rattle.text_model.specs.Script.{init_line}
use Rattle.scenario_text.proofs.scripts.init_lines.Given as goal

abbrev pub invariant-loop-name : goal.invariant-loop-name
invariant-loop-name l = l.inits.items ≡ map (init_line l.device l.lines) (take l.name-index l.names)
