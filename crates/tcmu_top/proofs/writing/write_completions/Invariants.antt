use Rattle.std.proofs.Common.{◌≡◌, take}
use Rattle.std.specs.List.{flat_map}
use Rattle.edge.specs.Outside.{Gained}
use Rattle.text_model.specs.Text.{completion_text}
use Rattle.tcmu_top.proofs.writing.write_completions.Given as goal

abbrev pub invariant-loop-done : goal.invariant-loop-done
invariant-loop-done g l = record {
  gained : Gained (g.K.Sink.written l.fn.out) (flat_map (completion_text l.device.name) (take l.done-index l.logged)) (g.K.Sink.written l.out);
  calm : g.K.Sink.faults l.out ≡ g.K.Sink.faults l.fn.out;
}
