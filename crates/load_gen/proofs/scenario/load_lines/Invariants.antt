use Rattle.std.proofs.Common.{◌≡◌}
use Rattle.text_model.specs.Load.{random_of, load_lines}
use Rattle.load_gen.proofs.scenario.load_lines.Given as goal

abbrev pub invariant-loop-i : goal.invariant-loop-i
invariant-loop-i l = record {
  number : l.x ≡ random_of l.seed l.i;
  lines : l.lines.items ≡ load_lines l.seed l.i;
}
