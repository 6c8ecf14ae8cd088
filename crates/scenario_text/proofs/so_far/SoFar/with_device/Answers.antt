use Rattle.std.proofs.Common.{arith, ◌+◌, ◌≤◌, length, ap, sym, subst}
use Rattle.text_model.specs.ScenarioData.{ScenarioData, DeviceLineData}
use Rattle.scenario_text.specs.Counts.{IsNewName}
use Rattle.scenario_text.proofs.Counting.{counted_device}
use Rattle.scenario_text.proofs.Naming.{are_names_more}
use Rattle.scenario_text.proofs.so_far.SoFar.with_device.Goals as goal

pub invariant_of-result : goal.invariant_of-result
invariant_of-result c =
    let d = c.args.device in
    let w : ScenarioData = record { devices = c.self.inside.devices.items; lines = c.self.inside.lines.items } in
    let new : IsNewName w d = subst (λ (s : ScenarioData). IsNewName s d) (sym c.self.view_is) c.requires in
    let few : length w.devices + 1 ≤ 16 = omega (arith, c.len.ensures, c.if-len-gt16.false) in
    rw (c.push.ensures.items, c.in_ok-reserve.ensures.items, c.in_ok-push.ensures.items, c.new.ensures, c.in_ok-note.ensures, ap (λ (x : DeviceLineData). x.name) c.device.view_is)
    (counted_device w.devices w.lines _ d _ _ _ _ c.self.invariant.0 few, are_names_more w _ d c.self.invariant.1 new)
