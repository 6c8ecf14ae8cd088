use Rattle.std.proofs.Common.{◌≡◌, take}
use Rattle.edge.specs.Outside.{Gained}
use Rattle.text_model.specs.Several.{ends_text}
use Rattle.tcmu_top.specs.Playing.{states_of}
use Rattle.tcmu_top.proofs.several.write_ends.Given as goal

abbrev pub invariant-loop-at : goal.invariant-loop-at
invariant-loop-at g l = record {
  gained : Gained (g.K.Sink.written l.fn.out) (ends_text (take l.at l.devices) (take l.at (states_of g.P.Path.device l.set))) (g.K.Sink.written l.out);
  calm : g.K.Sink.faults l.out ≡ g.K.Sink.faults l.fn.out;
}
