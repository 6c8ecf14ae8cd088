use Rattle.std.proofs.Common.{◌∙◌, ◌<◌, ◌≤◌, ◌^◌, length, refl, arith}
use Rattle.tcmu_model.specs.Device.{Device}
use Rattle.tcmu_model.specs.Drain.{Drains}
use Rattle.tcmu_top.specs.Playing.{states_of}
use Rattle.tcmu_top.proofs.Going.{drains_each, drains_first, every_kept, count_kept, drained_more, drained_stopped, drained_all}
use Rattle.tcmu_top.proofs.Sets.{states_count}
use Rattle.tcmu_top.proofs.Telling.{on_err}
use Rattle.tcmu_top.proofs.several.drain_each.Goals as goal

pub loop-at-init : goal.loop-at-init
loop-at-init g c =
    record {
      sofar = drains_first g.P.Path.relation c.args.devices.now (states_of g.P.Path.device c.args.set.now) _ c.requires.sound;
      few = c.requires.few;
      count = refl;
      names = refl;
      calm = refl;
    }

pub returns-in_err-drain_on-clause-err : goal.returns-in_err-drain_on-clause-err
returns-in_err-drain_on-clause-err g c =
    let ds = states_of g.P.Path.device c.loop-at.set in
    let within : c.loop-at.at < length ds = omega (arith, states_count g.P.Path.device c.loop-at.set, c.loop-at.invariant.count, c.len-at-end.ensures.value, c.loop-at-test.true) in
    on_err c.from_residual.result (drained_stopped g.P.Path.relation c.args.devices.now c.loop-at.at (drains_each g.P.Path.relation 0 (states_of g.P.Path.device c.args.set.now)) _ ds _ _ _ _ within c.loop-at.invariant.sofar c.in_err-drain_on.ensures.err)

pub loop-at-preserved : goal.loop-at-preserved
loop-at-preserved g c =
    let R = g.P.Path.relation in
    let at = c.loop-at.at in
    let ds = states_of g.P.Path.device c.loop-at.set in
    let ds' = states_of g.P.Path.device c.drain_on.new.set in
    let w = c.in_ok-drain_on.ensures.ok in
    record {
      sofar = drained_more R c.args.devices.now at (drains_each R 0 (states_of g.P.Path.device c.args.set.now)) _ ds ds' _ _ _ c.loop-at.invariant.sofar w;
      few = every_kept (λ (d : Device). d.state.accepted < 2 ^ 63) R c.args.devices.now at 0 (Drains R at) ds ds' _ _ w (λ h. omega (arith, h, w.accepts.most)) c.loop-at.invariant.few;
      count = omega (arith, states_count g.P.Path.device c.loop-at.set, states_count g.P.Path.device c.drain_on.new.set, count_kept R c.args.devices.now at 0 (Drains R at) ds ds' _ _ w, c.loop-at.invariant.count);
      names = c.drain_on.ensures.names ∙ c.loop-at.invariant.names;
      calm = c.in_ok-drain_on.ensures.faults.calm ∙ c.loop-at.invariant.calm;
    }

pub returns-clause-ok : goal.returns-clause-ok
returns-clause-ok g c =
    let ds = states_of g.P.Path.device c.loop-at.set in
    let all : length ds ≤ c.loop-at.at = omega (arith, states_count g.P.Path.device c.loop-at.set, c.loop-at.invariant.count, c.len-at-end.ensures.value, c.loop-at-test.false) in
    drained_all g.P.Path.relation c.args.devices.now c.loop-at.at (drains_each g.P.Path.relation 0 (states_of g.P.Path.device c.args.set.now)) _ ds _ _ all c.loop-at.invariant.sofar
