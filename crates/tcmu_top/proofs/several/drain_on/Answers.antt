use Rattle.std.proofs.Common.{◌<◌, ◌^◌, length, refl, arith}
use Rattle.std.proofs.lemmas.Option.{slice_get_read}
use Rattle.std.proofs.lemmas.Result.{on_ok_weaker, on_err_weaker}
use Rattle.tcmu_model.specs.Device.{Device}
use Rattle.tcmu_model.specs.Drain.{Drains}
use Rattle.tcmu_model.specs.Sound.{IsSound}
use Rattle.device_set.proofs.Places.{length-with_device, names-with_device}
use Rattle.tcmu_top.specs.Playing.{states_of}
use Rattle.tcmu_top.specs.InPart.{DrainsInPart}
use Rattle.tcmu_top.proofs.Sets.{states_get, wrote_on, wrote_on_front}
use Rattle.tcmu_top.proofs.several.drain_on.Goals as goal
use Rattle.tcmu_types.proofs.Everies.{every_at}

pub drain-requires-clause-few : goal.drain-requires-clause-few
drain-requires-clause-few g c =
    every_at (λ (d : Device). d.state.accepted < 2 ^ 63) (states_of g.P.Path.device c.args.set.now) c.args.at (g.P.Path.device c.get_mut.result.now) c.requires.few
    (states_get g.P.Path.device c.args.set.now c.args.at c.get_mut.result.now c.get_mut.ensures.value)

pub drain-requires-clause-sound : goal.drain-requires-clause-sound
drain-requires-clause-sound g c =
    every_at (λ (d : Device). IsSound d.state) (states_of g.P.Path.device c.args.set.now) c.args.at (g.P.Path.device c.get_mut.result.now) c.requires.sound
    (states_get g.P.Path.device c.args.set.now c.args.at c.get_mut.result.now c.get_mut.ensures.value)

pub returns-clause-ok : goal.returns-clause-ok
returns-clause-ok g c =
    let ls = c.args.devices.now in
    let named = slice_get_read ls (length ls) c.args.at c.index-devices-at.result refl (omega (arith, c.requires.there, c.requires.lines)) c.index-devices-at.is in
    on_ok_weaker c.drain.result
    (λ h. wrote_on g.P.Path.device g.P.Path.relation ls c.args.at 0 (Drains g.P.Path.relation c.args.at) c.args.set.now c.index-devices-at.result c.get_mut.result.now c.drain.new.path _ _ named c.get_mut.ensures.value c.drain.ensures.accepts (h c.args.at))
    c.drain.ensures.ok

pub returns-clause-err : goal.returns-clause-err
returns-clause-err g c =
    let ls = c.args.devices.now in
    let named = slice_get_read ls (length ls) c.args.at c.index-devices-at.result refl (omega (arith, c.requires.there, c.requires.lines)) c.index-devices-at.is in
    on_err_weaker c.drain.result
    (λ h. wrote_on_front g.P.Path.device g.P.Path.relation ls c.args.at (DrainsInPart g.P.Path.relation c.args.at) (Drains g.P.Path.relation c.args.at) c.args.set.now c.index-devices-at.result c.get_mut.result.now c.drain.new.path _ _ named c.get_mut.ensures.value (h c.args.at))
    c.drain.ensures.err

pub returns-clause-count : goal.returns-clause-count
returns-clause-count g c = length-with_device c.args.set.now c.args.at c.drain.new.path

pub returns-clause-names : goal.returns-clause-names
returns-clause-names g c = names-with_device c.args.set.now c.args.at c.drain.new.path
