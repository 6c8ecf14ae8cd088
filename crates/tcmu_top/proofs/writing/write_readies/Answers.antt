use Rattle.std.specs.List.{flat_map}
use Rattle.std.proofs.Common.{take, drop, ◌+◌}
use Rattle.text_model.specs.Text.{device_text}
use Rattle.tcmu_top.proofs.Telling.{front_more, on_err, pieces_at}
use Rattle.tcmu_top.proofs.writing.write_readies.Goals as goal

pub returns-in_err-write_ready-clause-err : goal.returns-in_err-write_ready-clause-err
returns-in_err-write_ready-clause-err g c =
    let i = c.loop-device.device-index in
    let ls = c.args.devices.now in
    on_err c.from_residual.result (front_more _ _ _ (flat_map device_text (take i ls)) (device_text c.device-item.result) (flat_map device_text (drop (i + 1) ls)) _
    (pieces_at device_text ls i c.device-item.result c.loop-device-test.true c.device-item.is) c.loop-device.invariant.gained c.in_err-write_ready.ensures.err)
