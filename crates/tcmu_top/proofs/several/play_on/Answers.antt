use Rattle.std.proofs.Common.{◌≡◌, ◌<◌, ◌^◌, ℕ, length, refl, ap, subst, arith}
use Rattle.std.proofs.lemmas.Option.{slice_get_read}
use Rattle.std.proofs.lemmas.Result.{on_ok_weaker, on_err_weaker}
use Rattle.tcmu_model.specs.Device.{Device}
use Rattle.text_model.specs.Replay.{Plays}
use Rattle.text_model.specs.ScenarioData.{LineData}
use Rattle.tcmu_model.specs.Sound.{IsSound}
use Rattle.device_set.specs.Sets.{with_device}
use Rattle.device_set.proofs.Places.{length-with_device, names-with_device}
use Rattle.tcmu_top.specs.Playing.{states_of, WroteOn, WroteOnFront}
use Rattle.tcmu_top.specs.InPart.{PlaysInPart}
use Rattle.tcmu_top.proofs.Sets.{states_get, wrote_on, wrote_on_front}
use Rattle.tcmu_top.proofs.several.play_on.Goals as goal
use Rattle.tcmu_types.proofs.Everies.{every_at}

pub play_line-requires-clause-few : goal.play_line-requires-clause-few
play_line-requires-clause-few g c =
    every_at (λ (d : Device). d.state.accepted < 2 ^ 63) (states_of g.P.Path.device c.args.set.now) c.line.inside.device (g.P.Path.device c.get_mut.result.now) c.requires.few
    (states_get g.P.Path.device c.args.set.now c.line.inside.device c.get_mut.result.now c.get_mut.ensures.value)

pub play_line-requires-clause-sound : goal.play_line-requires-clause-sound
play_line-requires-clause-sound g c =
    every_at (λ (d : Device). IsSound d.state) (states_of g.P.Path.device c.args.set.now) c.line.inside.device (g.P.Path.device c.get_mut.result.now) c.requires.sound
    (states_get g.P.Path.device c.args.set.now c.line.inside.device c.get_mut.result.now c.get_mut.ensures.value)

pub returns-clause-ok : goal.returns-clause-ok
returns-clause-ok g c =
    let R = g.P.Path.relation in
    let ls = c.args.devices.now in
    let at = c.line.inside.device in
    let what = c.args.line.now.what in
    let is : at ≡ c.args.line.now.device = ap (λ (x : LineData). x.device) c.line.view_is in
    let named = slice_get_read ls (length ls) at c.index-devices-at.result refl (omega (arith, is, c.requires.fit.device, c.requires.lines)) c.index-devices-at.is in
    let set' = with_device c.args.set.now at c.play_line.new.path in
    on_ok_weaker c.play_line.result
    (λ h. subst (λ (n : ℕ). WroteOn R ls n 1 (λ d es d'. Plays R n d what es d') (states_of g.P.Path.device c.args.set.now) (states_of g.P.Path.device set') (g.K.Sink.written c.args.out.now) (g.K.Sink.written c.play_line.new.out)) is
    (wrote_on g.P.Path.device R ls at 1 (λ d es d'. Plays R at d what es d') c.args.set.now c.index-devices-at.result c.get_mut.result.now c.play_line.new.path _ _ named c.get_mut.ensures.value c.play_line.ensures.accepts (h at)))
    c.play_line.ensures.ok

pub returns-clause-err : goal.returns-clause-err
returns-clause-err g c =
    let R = g.P.Path.relation in
    let ls = c.args.devices.now in
    let at = c.line.inside.device in
    let what = c.args.line.now.what in
    let is : at ≡ c.args.line.now.device = ap (λ (x : LineData). x.device) c.line.view_is in
    let named = slice_get_read ls (length ls) at c.index-devices-at.result refl (omega (arith, is, c.requires.fit.device, c.requires.lines)) c.index-devices-at.is in
    let set' = with_device c.args.set.now at c.play_line.new.path in
    on_err_weaker c.play_line.result
    (λ h. subst (λ (n : ℕ). WroteOnFront R ls n (λ d es d'. PlaysInPart R n d what es d') (λ d es d'. Plays R n d what es d') (states_of g.P.Path.device c.args.set.now) (states_of g.P.Path.device set') (g.K.Sink.written c.args.out.now) (g.K.Sink.written c.play_line.new.out)) is
    (wrote_on_front g.P.Path.device R ls at (λ d es d'. PlaysInPart R at d what es d') (λ d es d'. Plays R at d what es d') c.args.set.now c.index-devices-at.result c.get_mut.result.now c.play_line.new.path _ _ named c.get_mut.ensures.value (h at)))
    c.play_line.ensures.err

pub returns-clause-count : goal.returns-clause-count
returns-clause-count g c = length-with_device c.args.set.now c.line.inside.device c.play_line.new.path

pub returns-clause-names : goal.returns-clause-names
returns-clause-names g c = names-with_device c.args.set.now c.line.inside.device c.play_line.new.path
