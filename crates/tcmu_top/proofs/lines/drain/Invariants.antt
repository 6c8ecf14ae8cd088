use Rattle.std.proofs.Common.{◌≡◌, ℕ}
use Rattle.tcmu_model.specs.Sound.{IsSound}
use Rattle.tcmu_model.specs.Work.{work}
use Rattle.tcmu_path.specs.Calls.{Accepts}
use Rattle.tcmu_top.proofs.Playing.{Draining}
use Rattle.tcmu_top.proofs.lines.drain.Given as goal

abbrev pub invariant-loop-event : goal.invariant-loop-event
invariant-loop-event g l = record {
  sofar : (at : ℕ) → Draining g.P.Path.relation at l.device (g.P.Path.device l.fn.path) (g.P.Path.device l.path) (g.K.Sink.written l.fn.out) (g.K.Sink.written l.out);
  sound : IsSound (g.P.Path.device l.path).state;
  calm : g.K.Sink.faults l.out ≡ g.K.Sink.faults l.fn.out;
  accepts : Accepts 0 (g.P.Path.device l.fn.path) (g.P.Path.device l.path);
}

abbrev pub decreases-loop-event : goal.decreases-loop-event
decreases-loop-event g l = work (g.P.Path.device l.path).state
