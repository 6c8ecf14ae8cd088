use Rattle.std.proofs.Common.{◌∙◌, refl, ap, subst, List, Err}
use Rattle.text_model.specs.ScenarioData.{ScenarioData, DeviceLineData}
use Rattle.media.specs.declared.make.MakeFault.{MakeFault}
use Rattle.media.specs.declared.make.MakeFault.TheVariants as fault
use Rattle.tcmu_top.specs.Opened.{AreOpen, Unopened}
use Rattle.tcmu_top.specs.Playing.{states_of}
use Rattle.tcmu_top.specs.Top.{replay}
use Rattle.tcmu_top.proofs.Opened.{open_as}
use Rattle.tcmu_top.proofs.Scenarios.{scenario_wanting, scenario_not_opened, wanting_early, not_opened}
use Rattle.tcmu_top.proofs.top.replay_scenario.Goals as goal

pub replay_opened-requires-clause-opened : goal.replay_opened-requires-clause-opened
replay_opened-requires-clause-opened g c =
    let s = c.args.scenario.now in
    let same = c.as_slice-devices.ensures ∙ ap (λ (x : ScenarioData). x.devices) c.scenario.view_is in
    let ready = subst (λ (l : List DeviceLineData). AreOpen (g.F.Files.state c.args.files.now) (g.F.Files.state c.open_devices.new.files) l (states_of (λ d. d) c.in-Ok.set)) same c.in-Ok.ensures.opened in
    λ κs within. open_as (g.F.Files.state c.args.files.now) s.devices (states_of (λ d. d) c.in-Ok.set) ready.opens

pub returns-in-Ok-clause-ends : goal.returns-in-Ok-clause-ends
returns-in-Ok-clause-ends g c =
    let same = c.as_slice-devices.ensures ∙ ap (λ (x : ScenarioData). x.devices) c.scenario.view_is in
    let ready = subst (λ (l : List DeviceLineData). AreOpen (g.F.Files.state c.args.files.now) (g.F.Files.state c.open_devices.new.files) l (states_of (λ d. d) c.in-Ok.set)) same c.in-Ok.ensures.opened in
    c.replay_opened.ensures.ends (g.F.Files.state c.args.files.now) (g.F.Files.faults c.args.files.now) (g.F.Files.faults c.replay_opened.new.files) (c.replay_opened.ensures.same ∙ c.in-Ok.ensures.calm) ready

pub returns-in-Err-Open-clause-ends : goal.returns-in-Err-Open-clause-ends
returns-in-Err-Open-clause-ends g c =
    let s = c.args.scenario.now in
    let files = g.F.Files.state c.args.files.now in
    let last = g.F.Files.state c.open_devices.new.files in
    let before = g.F.Files.faults c.args.files.now in
    let after = g.F.Files.faults c.open_devices.new.files in
    let same = c.as_slice-devices.ensures ∙ ap (λ (x : ScenarioData). x.devices) c.scenario.view_is in
    let refused = subst (λ (e : MakeFault). Unopened e c.as_slice-devices.result.now files last before after) c.in-Err-Open.field-0-is c.in-Err-Open.ensures.refused in
    scenario_not_opened replay s files last before after _ _ _ _ refl (not_opened s files last before after _ (subst (λ (l : List DeviceLineData). Unopened fault.Open l files last before after) same refused))

pub returns-in-Err-NoMemory-clause-ends : goal.returns-in-Err-NoMemory-clause-ends
returns-in-Err-NoMemory-clause-ends g c =
    let s = c.args.scenario.now in
    let files = g.F.Files.state c.args.files.now in
    let last = g.F.Files.state c.open_devices.new.files in
    let before = g.F.Files.faults c.args.files.now in
    let after = g.F.Files.faults c.open_devices.new.files in
    let same = c.as_slice-devices.ensures ∙ ap (λ (x : ScenarioData). x.devices) c.scenario.view_is in
    let refused = subst (λ (e : MakeFault). Unopened e c.as_slice-devices.result.now files last before after) c.in-Err-NoMemory.field-0-is c.in-Err-NoMemory.ensures.refused in
    scenario_wanting replay s files last before after _ _ _ _ (c.in-Err-NoMemory.ensures.wanting (ap (λ (x : MakeFault). Err x) c.in-Err-NoMemory.field-0-is)) refl (wanting_early replay.stopped s files last _ (subst (λ (l : List DeviceLineData). Unopened fault.NoMemory l files last before after) same refused))
