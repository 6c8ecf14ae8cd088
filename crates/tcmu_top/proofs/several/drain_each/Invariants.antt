use Rattle.std.proofs.Common.{◌≡◌, ◌<◌, ◌^◌, length}
use Rattle.tcmu_types.specs.Lists.{Every}
use Rattle.device_set.specs.Sets.{names}
use Rattle.tcmu_top.specs.Playing.{states_of}
use Rattle.tcmu_top.proofs.Each.{SoFar}
use Rattle.tcmu_top.proofs.Going.{drains_each, drains_from}
use Rattle.tcmu_top.proofs.several.drain_each.Given as goal

abbrev pub invariant-loop-at : goal.invariant-loop-at
invariant-loop-at g l = record {
  sofar : SoFar g.P.Path.relation l.devices (drains_from g.P.Path.relation l.at (states_of g.P.Path.device l.set)) (drains_each g.P.Path.relation 0 (states_of g.P.Path.device l.fn.set)) (states_of g.P.Path.device l.fn.set) (states_of g.P.Path.device l.set) (g.K.Sink.written l.fn.out) (g.K.Sink.written l.out);
  few : Every (λ d. d.state.accepted < 2 ^ 63) (states_of g.P.Path.device l.set);
  count : length l.set ≡ length l.fn.set;
  names : names l.set ≡ names l.fn.set;
  calm : g.K.Sink.faults l.out ≡ g.K.Sink.faults l.fn.out;
}
