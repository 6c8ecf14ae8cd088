use Rattle.std.proofs.Common.{◌∙◌, ◌+◌, ◌<◌, ◌≤◌, ◌^◌, List, length, sym, ap, subst, arith}
use Rattle.std.specs.List.{flat_map}
use Rattle.std.proofs.lemmas.Result.{on_ok_weaker, on_err_weaker}
use Rattle.edge.specs.Outside.{Gained, GainedFront}
use Rattle.tcmu_model.specs.Device.{Device}
use Rattle.text_model.specs.ScenarioData.{ScenarioData, DeviceLineData, LineData}
use Rattle.text_model.specs.Replay.{Plays}
use Rattle.text_model.specs.Several.{ReplaysEach, ends_text}
use Rattle.tcmu_types.specs.Lists.{Every}
use Rattle.text_model.specs.Text.{device_text}
use Rattle.tcmu_types.proofs.Everies.{every-weaker}
use Rattle.tcmu_top.specs.Playing.{states_of, WroteEach, WroteEachFront}
use Rattle.tcmu_top.specs.InPart.{ReplaysEachInPart}
use Rattle.text_model.specs.ScenarioRules.{IsFitFor}
use Rattle.tcmu_top.proofs.Sets.{states_count}
use Rattle.tcmu_top.proofs.Telling.{on_err}
use Rattle.text_laws.proofs.Replays.{opened_count}
use Rattle.tcmu_top.proofs.Opened.{opened_sound, opened_none}
use Rattle.tcmu_top.proofs.Whole.{lines_fit, made_of_ready, made_of_run, made_of_last, front_of_ready, front_of_run, front_of_last, whole}
use Rattle.tcmu_top.proofs.several.replay_devices.Goals as goal

pub returns-in_err-write_readies-clause-err : goal.returns-in_err-write_readies-clause-err
returns-in_err-write_readies-clause-err g c =
    let s = c.args.scenario.now in
    let ds = states_of g.P.Path.device c.args.set.now in
    let same = c.as_slice-devices.ensures ∙ ap (λ (x : ScenarioData). x.devices) c.scenario.view_is in
    let fit = lines_fit s.devices (length ds) s.lines (sym (opened_count s.devices ds c.requires.opened)) c.requires.limits.lines c.requires.served.no_dumps in
    on_err c.from_residual.result (made_of_ready g.P.Path.relation s.devices ds s.lines _ _ fit
    (subst (λ (l : List DeviceLineData). GainedFront (g.K.Sink.written c.args.out.now) (flat_map device_text l) (g.K.Sink.written c.write_readies.new.out)) same c.in_err-write_readies.ensures.err))

pub returns-in_err-write_readies-clause-front : goal.returns-in_err-write_readies-clause-front
returns-in_err-write_readies-clause-front g c outcomes =
    let s = c.args.scenario.now in
    let ds = states_of g.P.Path.device c.args.set.now in
    let same = c.as_slice-devices.ensures ∙ ap (λ (x : ScenarioData). x.devices) c.scenario.view_is in
    let fit = lines_fit s.devices (length ds) s.lines (sym (opened_count s.devices ds c.requires.opened)) c.requires.limits.lines c.requires.served.no_dumps in
    on_err c.from_residual.result (front_of_ready g.P.Path.relation s.devices ds s.lines _ _ (opened_sound s.devices ds c.requires.limits.devices c.requires.opened) c.requires.served.no_dumps fit
    (subst (λ (l : List DeviceLineData). GainedFront (g.K.Sink.written c.args.out.now) (flat_map device_text l) (g.K.Sink.written c.write_readies.new.out)) same c.in_err-write_readies.ensures.err) outcomes)

pub replay_lines-requires-clause-lines : goal.replay_lines-requires-clause-lines
replay_lines-requires-clause-lines g c =
    let s = c.args.scenario.now in
    let ds = states_of g.P.Path.device c.args.set.now in
    let same = c.as_slice-devices.ensures ∙ ap (λ (x : ScenarioData). x.devices) c.scenario.view_is in
    ap (λ (l : List DeviceLineData). length l) same ∙ sym (opened_count s.devices ds c.requires.opened) ∙ states_count g.P.Path.device c.args.set.now

pub replay_lines-requires-clause-fit : goal.replay_lines-requires-clause-fit
replay_lines-requires-clause-fit g c =
    let s = c.args.scenario.now in
    let ds = states_of g.P.Path.device c.args.set.now in
    let lines = c.as_slice.ensures ∙ ap (λ (x : ScenarioData). x.lines) c.scenario.view_is in
    subst (λ (l : List LineData). Every (IsFitFor (length c.args.set.now)) l) (sym lines)
    (lines_fit s.devices (length c.args.set.now) s.lines (sym (opened_count s.devices ds c.requires.opened) ∙ states_count g.P.Path.device c.args.set.now) c.requires.limits.lines c.requires.served.no_dumps)

pub replay_lines-requires-clause-few : goal.replay_lines-requires-clause-few
replay_lines-requires-clause-few g c =
    let s = c.args.scenario.now in
    let ds = states_of g.P.Path.device c.args.set.now in
    let lines = c.as_slice.ensures ∙ ap (λ (x : ScenarioData). x.lines) c.scenario.view_is in
    let few : length c.as_slice.result.now ≤ 20000 = subst (λ (l : List LineData). length l ≤ 20000) (sym lines) c.requires.limits.few_lines in
    every-weaker (λ (d : Device). d.state.accepted ≤ 0) (λ (d : Device). d.state.accepted + length c.as_slice.result.now < 2 ^ 63) ds (λ d h. omega (arith, h, few)) (opened_none 0 s.devices ds c.requires.opened)

pub replay_lines-requires-clause-sound : goal.replay_lines-requires-clause-sound
replay_lines-requires-clause-sound g c = opened_sound c.args.scenario.now.devices (states_of g.P.Path.device c.args.set.now) c.requires.limits.devices c.requires.opened

pub returns-in_err-replay_lines-clause-err : goal.returns-in_err-replay_lines-clause-err
returns-in_err-replay_lines-clause-err g c =
    let R = g.P.Path.relation in
    let s = c.args.scenario.now in
    let ds = states_of g.P.Path.device c.args.set.now in
    let ds' = states_of g.P.Path.device c.replay_lines.new.set in
    let same = c.as_slice-devices.ensures ∙ ap (λ (x : ScenarioData). x.devices) c.scenario.view_is in
    let lines = c.as_slice.ensures ∙ ap (λ (x : ScenarioData). x.lines) c.scenario.view_is in
    let ready = subst (λ (l : List DeviceLineData). Gained (g.K.Sink.written c.args.out.now) (flat_map device_text l) (g.K.Sink.written c.write_readies.new.out)) same c.in_ok-write_readies.ensures.ok in
    let run = subst (λ (l : List DeviceLineData). WroteEachFront R l (ReplaysEachInPart R ds c.as_slice.result.now) (ReplaysEach (Plays R) ds c.as_slice.result.now) ds ds' (g.K.Sink.written c.write_readies.new.out) (g.K.Sink.written c.replay_lines.new.out)) same c.in_err-replay_lines.ensures.err in
    let all = subst (λ (l : List LineData). WroteEachFront R s.devices (ReplaysEachInPart R ds l) (ReplaysEach (Plays R) ds l) ds ds' (g.K.Sink.written c.write_readies.new.out) (g.K.Sink.written c.replay_lines.new.out)) lines run in
    on_err c.from_residual-in_err-replay_lines.result (made_of_run R s.devices ds ds' s.lines _ _ _ ready all)

pub returns-in_err-replay_lines-clause-front : goal.returns-in_err-replay_lines-clause-front
returns-in_err-replay_lines-clause-front g c outcomes =
    let R = g.P.Path.relation in
    let s = c.args.scenario.now in
    let ds = states_of g.P.Path.device c.args.set.now in
    let ds' = states_of g.P.Path.device c.replay_lines.new.set in
    let same = c.as_slice-devices.ensures ∙ ap (λ (x : ScenarioData). x.devices) c.scenario.view_is in
    let lines = c.as_slice.ensures ∙ ap (λ (x : ScenarioData). x.lines) c.scenario.view_is in
    let ready = subst (λ (l : List DeviceLineData). Gained (g.K.Sink.written c.args.out.now) (flat_map device_text l) (g.K.Sink.written c.write_readies.new.out)) same c.in_ok-write_readies.ensures.ok in
    let run = subst (λ (l : List DeviceLineData). WroteEachFront R l (ReplaysEachInPart R ds c.as_slice.result.now) (ReplaysEach (Plays R) ds c.as_slice.result.now) ds ds' (g.K.Sink.written c.write_readies.new.out) (g.K.Sink.written c.replay_lines.new.out)) same c.in_err-replay_lines.ensures.err in
    let all = subst (λ (l : List LineData). WroteEachFront R s.devices (ReplaysEachInPart R ds l) (ReplaysEach (Plays R) ds l) ds ds' (g.K.Sink.written c.write_readies.new.out) (g.K.Sink.written c.replay_lines.new.out)) lines run in
    on_err c.from_residual-in_err-replay_lines.result (front_of_run R s.devices ds ds' s.lines _ _ _ c.requires.served.no_dumps ready all outcomes)

pub write_ends-requires-clause-lines : goal.write_ends-requires-clause-lines
write_ends-requires-clause-lines g c =
    let s = c.args.scenario.now in
    let ds = states_of g.P.Path.device c.args.set.now in
    let same = c.as_slice-devices.ensures ∙ ap (λ (x : ScenarioData). x.devices) c.scenario.view_is in
    ap (λ (l : List DeviceLineData). length l) same ∙ sym (opened_count s.devices ds c.requires.opened) ∙ states_count g.P.Path.device c.args.set.now ∙ sym c.in_ok-replay_lines.ensures.count

pub returns-clause-ok : goal.returns-clause-ok
returns-clause-ok g c =
    let R = g.P.Path.relation in
    let s = c.args.scenario.now in
    let ds = states_of g.P.Path.device c.args.set.now in
    let ds' = states_of g.P.Path.device c.replay_lines.new.set in
    let same = c.as_slice-devices.ensures ∙ ap (λ (x : ScenarioData). x.devices) c.scenario.view_is in
    let lines = c.as_slice.ensures ∙ ap (λ (x : ScenarioData). x.lines) c.scenario.view_is in
    let ready = subst (λ (l : List DeviceLineData). Gained (g.K.Sink.written c.args.out.now) (flat_map device_text l) (g.K.Sink.written c.write_readies.new.out)) same c.in_ok-write_readies.ensures.ok in
    let run = subst (λ (l : List DeviceLineData). WroteEach R l (ReplaysEach (Plays R) ds c.as_slice.result.now) ds ds' (g.K.Sink.written c.write_readies.new.out) (g.K.Sink.written c.replay_lines.new.out)) same c.in_ok-replay_lines.ensures.ok in
    let all = subst (λ (l : List LineData). WroteEach R s.devices (ReplaysEach (Plays R) ds l) ds ds' (g.K.Sink.written c.write_readies.new.out) (g.K.Sink.written c.replay_lines.new.out)) lines run in
    on_ok_weaker c.write_ends.result
    (λ h. whole R s.devices ds ds' s.lines _ _ _ _ c.requires.served.no_dumps ready all
    (subst (λ (l : List DeviceLineData). Gained (g.K.Sink.written c.replay_lines.new.out) (ends_text l ds') (g.K.Sink.written c.write_ends.new.out)) same h))
    c.write_ends.ensures.ok

pub returns-clause-err : goal.returns-clause-err
returns-clause-err g c =
    let R = g.P.Path.relation in
    let s = c.args.scenario.now in
    let ds = states_of g.P.Path.device c.args.set.now in
    let ds' = states_of g.P.Path.device c.replay_lines.new.set in
    let same = c.as_slice-devices.ensures ∙ ap (λ (x : ScenarioData). x.devices) c.scenario.view_is in
    let lines = c.as_slice.ensures ∙ ap (λ (x : ScenarioData). x.lines) c.scenario.view_is in
    let ready = subst (λ (l : List DeviceLineData). Gained (g.K.Sink.written c.args.out.now) (flat_map device_text l) (g.K.Sink.written c.write_readies.new.out)) same c.in_ok-write_readies.ensures.ok in
    let run = subst (λ (l : List DeviceLineData). WroteEach R l (ReplaysEach (Plays R) ds c.as_slice.result.now) ds ds' (g.K.Sink.written c.write_readies.new.out) (g.K.Sink.written c.replay_lines.new.out)) same c.in_ok-replay_lines.ensures.ok in
    let all = subst (λ (l : List LineData). WroteEach R s.devices (ReplaysEach (Plays R) ds l) ds ds' (g.K.Sink.written c.write_readies.new.out) (g.K.Sink.written c.replay_lines.new.out)) lines run in
    on_err_weaker c.write_ends.result
    (λ h. made_of_last R s.devices ds ds' s.lines _ _ _ _ ready all
    (subst (λ (l : List DeviceLineData). GainedFront (g.K.Sink.written c.replay_lines.new.out) (ends_text l ds') (g.K.Sink.written c.write_ends.new.out)) same h))
    c.write_ends.ensures.err

pub returns-clause-front : goal.returns-clause-front
returns-clause-front g c outcomes =
    let R = g.P.Path.relation in
    let s = c.args.scenario.now in
    let ds = states_of g.P.Path.device c.args.set.now in
    let ds' = states_of g.P.Path.device c.replay_lines.new.set in
    let same = c.as_slice-devices.ensures ∙ ap (λ (x : ScenarioData). x.devices) c.scenario.view_is in
    let lines = c.as_slice.ensures ∙ ap (λ (x : ScenarioData). x.lines) c.scenario.view_is in
    let ready = subst (λ (l : List DeviceLineData). Gained (g.K.Sink.written c.args.out.now) (flat_map device_text l) (g.K.Sink.written c.write_readies.new.out)) same c.in_ok-write_readies.ensures.ok in
    let run = subst (λ (l : List DeviceLineData). WroteEach R l (ReplaysEach (Plays R) ds c.as_slice.result.now) ds ds' (g.K.Sink.written c.write_readies.new.out) (g.K.Sink.written c.replay_lines.new.out)) same c.in_ok-replay_lines.ensures.ok in
    let all = subst (λ (l : List LineData). WroteEach R s.devices (ReplaysEach (Plays R) ds l) ds ds' (g.K.Sink.written c.write_readies.new.out) (g.K.Sink.written c.replay_lines.new.out)) lines run in
    on_err_weaker c.write_ends.result
    (λ h. front_of_last R s.devices ds ds' s.lines _ _ _ _ c.requires.served.no_dumps ready all
    (subst (λ (l : List DeviceLineData). GainedFront (g.K.Sink.written c.replay_lines.new.out) (ends_text l ds') (g.K.Sink.written c.write_ends.new.out)) same h))
    c.write_ends.ensures.err
