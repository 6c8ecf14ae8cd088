use Rattle.std.proofs.Common.{◌≡◌, ◌+◌, ◌<◌, ◌^◌, length, drop}
use Rattle.tcmu_types.specs.Lists.{Every}
use Rattle.device_set.specs.Sets.{names}
use Rattle.tcmu_top.specs.Playing.{states_of}
use Rattle.text_model.specs.ScenarioRules.{IsFitFor}
use Rattle.tcmu_top.proofs.Each.{SoFar}
use Rattle.tcmu_top.proofs.Going.{replays_each}
use Rattle.tcmu_top.proofs.several.replay_lines.Given as goal

abbrev pub invariant-loop-line : goal.invariant-loop-line
invariant-loop-line g l = record {
  sofar : SoFar g.P.Path.relation l.devices (replays_each g.P.Path.relation (states_of g.P.Path.device l.set) (drop l.line-index l.lines)) (replays_each g.P.Path.relation (states_of g.P.Path.device l.fn.set) l.lines) (states_of g.P.Path.device l.fn.set) (states_of g.P.Path.device l.set) (g.K.Sink.written l.fn.out) (g.K.Sink.written l.out);
  fit : Every (IsFitFor (length l.fn.set)) (drop l.line-index l.lines);
  few : Every (λ d. d.state.accepted + length l.lines < 2 ^ 63 + l.line-index) (states_of g.P.Path.device l.set);
  count : length l.set ≡ length l.fn.set;
  names : names l.set ≡ names l.fn.set;
  calm : g.K.Sink.faults l.out ≡ g.K.Sink.faults l.fn.out;
}
