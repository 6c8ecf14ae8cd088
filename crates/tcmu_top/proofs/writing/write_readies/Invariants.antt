use Rattle.std.proofs.Common.{◌≡◌, take}
use Rattle.std.specs.List.{flat_map}
use Rattle.edge.specs.Outside.{Gained}
use Rattle.text_model.specs.Text.{device_text}
use Rattle.tcmu_top.proofs.writing.write_readies.Given as goal

abbrev pub invariant-loop-device : goal.invariant-loop-device
invariant-loop-device g l = record {
  gained : Gained (g.K.Sink.written l.fn.out) (flat_map device_text (take l.device-index l.devices)) (g.K.Sink.written l.out);
  calm : g.K.Sink.faults l.out ≡ g.K.Sink.faults l.fn.out;
}
