use Rattle.std.proofs.Common.{◌≡◌, ◌∙◌, ap, sym, subst, List, length, Err, inr}
use Rattle.text_model.specs.ScenarioData.{ScenarioData, DeviceLineData}
use Rattle.tcmu_top.specs.Opened.{KeepsEach}
use Rattle.tcmu_top.specs.Playing.{states_of}
use Rattle.tcmu_top.specs.Top.{replay}
use Rattle.tcmu_top.specs.declared.writing.Stop.{Stop}
use Rattle.tcmu_top.specs.declared.writing.Stop.TheVariants as stop
use Rattle.tcmu_top.proofs.Outcomes.{has_outcomes}
use Rattle.tcmu_top.proofs.Scenarios.{text_written, cut_short, scenario_ok, scenario_cut, scenario_wanting}
use Rattle.tcmu_top.proofs.Sets.{states_count}
use Rattle.text_laws.proofs.Replays.{opened_count}
use Rattle.tcmu_top.proofs.top.replay_opened.Goals as goal

pub keep_files-requires-clause-count : goal.keep_files-requires-clause-count
keep_files-requires-clause-count g c =
    let s = c.args.scenario.now in
    let same = c.as_slice.ensures ∙ ap (λ (x : ScenarioData). x.devices) c.scenario.view_is in
    λ κs within. ap (λ (l : List DeviceLineData). length l) same ∙ sym (opened_count s.devices (states_of (λ d. d) c.args.set) c.requires.opened) ∙ states_count (λ d. d) c.args.set ∙ sym c.replay_devices-ended.ensures.count

pub returns-in-Ok-clause-ends : goal.returns-in-Ok-clause-ends
returns-in-Ok-clause-ends g c entry before after calm ready =
    let s = c.args.scenario.now in
    let same = c.as_slice.ensures ∙ ap (λ (x : ScenarioData). x.devices) c.scenario.view_is in
    let ds = states_of (λ d. d) c.args.set in
    let ends = states_of (λ d. d) c.replay_devices-ended.new.set in
    let mid = g.F.Files.state c.args.files.now in
    let last = g.F.Files.state c.keep_files.new.files in
    let kept = subst (λ (l : List DeviceLineData). KeepsEach l ends mid last) same c.keep_files.ensures.kept in
    scenario_ok replay s entry last before after _ _ _ _ calm c.in-Ok.ensures.faults.calm (text_written s entry mid last ds ends _ _ c.requires.limits ready c.in-Ok.ensures.ok kept)

pub returns-in-Err-WriteFault-clause-ends : goal.returns-in-Err-WriteFault-clause-ends
returns-in-Err-WriteFault-clause-ends g c entry before after calm ready =
    let s = c.args.scenario.now in
    let same = c.as_slice.ensures ∙ ap (λ (x : ScenarioData). x.devices) c.scenario.view_is in
    let ds = states_of (λ d. d) c.args.set in
    let ends = states_of (λ d. d) c.replay_devices-ended.new.set in
    let mid = g.F.Files.state c.args.files.now in
    let last = g.F.Files.state c.keep_files.new.files in
    let kept = subst (λ (l : List DeviceLineData). KeepsEach l ends mid last) same c.keep_files.ensures.kept in
    let count : length ends ≡ length ds = states_count (λ d. d) c.replay_devices-ended.new.set ∙ c.replay_devices-ended.ensures.count ∙ sym (states_count (λ d. d) c.args.set) in
    let which : c.in-Err-WriteFault.field-0 ≡ stop.WriteFault = rw c.in-Err-WriteFault.is at c.in-Err-WriteFault.field-0-is in
    scenario_cut replay s entry last before after _ _ _ _ calm (c.replay_devices-ended.ensures.faults.failed (c.in-Err-WriteFault.is ∙ ap (λ (x : Stop). Err x) which))
    (cut_short s entry mid last ds ends _ _ c.requires.limits ready count (rw c.in-Err-WriteFault.is at c.replay_devices-ended.ensures.front has_outcomes) kept)

pub returns-in-Err-NoMemory-clause-ends : goal.returns-in-Err-NoMemory-clause-ends
returns-in-Err-NoMemory-clause-ends g c entry before after calm ready =
    let s = c.args.scenario.now in
    let same = c.as_slice.ensures ∙ ap (λ (x : ScenarioData). x.devices) c.scenario.view_is in
    let ds = states_of (λ d. d) c.args.set in
    let ends = states_of (λ d. d) c.replay_devices-ended.new.set in
    let mid = g.F.Files.state c.args.files.now in
    let last = g.F.Files.state c.keep_files.new.files in
    let kept = subst (λ (l : List DeviceLineData). KeepsEach l ends mid last) same c.keep_files.ensures.kept in
    let count : length ends ≡ length ds = states_count (λ d. d) c.replay_devices-ended.new.set ∙ c.replay_devices-ended.ensures.count ∙ sym (states_count (λ d. d) c.args.set) in
    let which : c.in-Err-NoMemory.field-0 ≡ stop.NoMemory = rw c.in-Err-NoMemory.is at c.in-Err-NoMemory.field-0-is in
    scenario_wanting replay s entry last before after _ _ _ _ calm (c.replay_devices-ended.ensures.faults.wanting (c.in-Err-NoMemory.is ∙ ap (λ (x : Stop). Err x) which)) (inr (cut_short s entry mid last ds ends _ _ c.requires.limits ready count (rw c.in-Err-NoMemory.is at c.replay_devices-ended.ensures.front has_outcomes) kept))
