use Rattle.std.proofs.Common.{drop}
use Rattle.tcmu_types.specs.Lists.{Every}
use Rattle.tcmu_path.specs.Calls.{Accepts}
use Rattle.text_model.specs.ScenarioRules.{IsFitFor}
use Rattle.load_run.proofs.Tallying.{Playing}
use Rattle.load_run.proofs.tally.play_lines.Given as goal

abbrev pub invariant-loop-line : goal.invariant-loop-line
invariant-loop-line g l = record {
  sofar : Playing g.P.Path.relation (g.P.Path.device l.fn.path) (g.P.Path.device l.path) l.lines (drop l.line-index l.lines) l.fn.sizes.items l.sizes.items;
  fit : Every (IsFitFor 1) (drop l.line-index l.lines);
  accepts : Accepts l.line-index (g.P.Path.device l.fn.path) (g.P.Path.device l.path);
}
