use Rattle.std.proofs.Common.{◌≡◌, ◌∙◌, ◌+◌, ◌<◌, ◌^◌, length, drop, sym, subst, arith}
use Rattle.std.proofs.lemmas.List.{drop_all}
use Rattle.std.proofs.lemmas.Result.{on_ok_weaker, on_err_weaker}
use Rattle.tcmu_model.specs.Device.{Device}
use Rattle.tcmu_types.specs.Lists.{Every}
use Rattle.tcmu_types.proofs.Everies.{every-weaker}
use Rattle.text_model.specs.ScenarioRules.{IsFitFor}
use Rattle.tcmu_top.specs.Playing.{states_of}
use Rattle.tcmu_top.proofs.Each.{sofar_then, sofar_then_front}
use Rattle.tcmu_top.proofs.Going.{drains_each, replays_each, PlaysLine, every_turned, count_kept, played_more, played_stopped}
use Rattle.tcmu_top.proofs.Sets.{states_count}
use Rattle.tcmu_top.proofs.Telling.{on_err}
use Rattle.tcmu_top.proofs.several.replay_lines.Goals as goal
use Rattle.load_run.proofs.Tallying.{line_at}

pub play_on-requires-clause-few : goal.play_on-requires-clause-few
play_on-requires-clause-few g c =
    let n = length c.args.lines.now in
    let i = c.loop-line.line-index in
    every-weaker (λ (d : Device). d.state.accepted + n < 2 ^ 63 + i) (λ (d : Device). d.state.accepted < 2 ^ 63) (states_of g.P.Path.device c.loop-line.set) (λ d h. omega (arith, h, c.loop-line-test.true)) c.loop-line.invariant.few

pub play_on-requires-clause-fit : goal.play_on-requires-clause-fit
play_on-requires-clause-fit g c =
    let at = line_at c.args.lines.now c.loop-line.line-index c.line-item.result c.loop-line-test.true c.line-item.is in
    let fit = rw at at c.loop-line.invariant.fit in
    rw c.loop-line.invariant.count fit.0

pub returns-in_err-play_on-clause-err : goal.returns-in_err-play_on-clause-err
returns-in_err-play_on-clause-err g c =
    let R = g.P.Path.relation in
    let ls = c.args.lines.now in
    let i = c.loop-line.line-index in
    let ds = states_of g.P.Path.device c.loop-line.set in
    let at = line_at ls i c.line-item.result c.loop-line-test.true c.line-item.is in
    let so = rw at at c.loop-line.invariant.sofar in
    let fit = rw at at c.loop-line.invariant.fit in
    let count : length c.args.set.now ≡ length ds = sym (states_count g.P.Path.device c.loop-line.set ∙ c.loop-line.invariant.count) in
    on_err c.from_residual.result (played_stopped R c.args.devices.now c.line-item.result (drop (i + 1) ls) (replays_each R (states_of g.P.Path.device c.args.set.now) ls) _ ds _ _ _ _
    (subst (λ n. Every (IsFitFor n) (drop (i + 1) ls)) count fit.1) so c.in_err-play_on.ensures.err)

pub loop-line-preserved : goal.loop-line-preserved
loop-line-preserved g c =
    let R = g.P.Path.relation in
    let ls = c.args.lines.now in
    let n = length ls in
    let i = c.loop-line.line-index in
    let l = c.line-item.result in
    let ds = states_of g.P.Path.device c.loop-line.set in
    let ds' = states_of g.P.Path.device c.play_on.new.set in
    let at = line_at ls i l c.loop-line-test.true c.line-item.is in
    let so = rw at at c.loop-line.invariant.sofar in
    let fit = rw at at c.loop-line.invariant.fit in
    let w = c.in_ok-play_on.ensures.ok in
    record {
      sofar = played_more R c.args.devices.now l (drop (i + 1) ls) (replays_each R (states_of g.P.Path.device c.args.set.now) ls) _ ds ds' _ _ _ so w;
      fit = fit.1;
      few = every_turned (λ (d : Device). d.state.accepted + n < 2 ^ 63 + i) (λ (d : Device). d.state.accepted + n < 2 ^ 63 + (i + 1)) R c.args.devices.now l.device 1 (PlaysLine R l) ds ds' _ _ w
          (λ d h. omega (arith, h)) (λ h. omega (arith, h, w.accepts.most)) c.loop-line.invariant.few;
      count = omega (arith, states_count g.P.Path.device c.loop-line.set, states_count g.P.Path.device c.play_on.new.set, count_kept R c.args.devices.now l.device 1 (PlaysLine R l) ds ds' _ _ w, c.loop-line.invariant.count);
      names = c.play_on.ensures.names ∙ c.loop-line.invariant.names;
      calm = c.in_ok-play_on.ensures.faults.calm ∙ c.loop-line.invariant.calm;
    }

pub drain_each-requires-clause-few : goal.drain_each-requires-clause-few
drain_each-requires-clause-few g c =
    let n = length c.args.lines.now in
    let i = c.loop-line.line-index in
    every-weaker (λ (d : Device). d.state.accepted + n < 2 ^ 63 + i) (λ (d : Device). d.state.accepted < 2 ^ 63) (states_of g.P.Path.device c.loop-line.set) (λ d h. omega (arith, h, c.loop-line.auto)) c.loop-line.invariant.few

pub returns-clause-ok : goal.returns-clause-ok
returns-clause-ok g c =
    let R = g.P.Path.relation in
    let none = drop_all c.loop-line.line-index c.args.lines.now c.loop-line-test.false in
    let so = rw none at c.loop-line.invariant.sofar in
    on_ok_weaker c.drain_each.result (λ h. sofar_then R c.args.devices.now (drains_each R 0 (states_of g.P.Path.device c.loop-line.set)) (replays_each R (states_of g.P.Path.device c.args.set.now) c.args.lines.now) _ _ _ _ _ _ so h) c.drain_each.ensures.ok

pub returns-clause-err : goal.returns-clause-err
returns-clause-err g c =
    let R = g.P.Path.relation in
    let none = drop_all c.loop-line.line-index c.args.lines.now c.loop-line-test.false in
    let so = rw none at c.loop-line.invariant.sofar in
    on_err_weaker c.drain_each.result (λ h. sofar_then_front R c.args.devices.now (drains_each R 0 (states_of g.P.Path.device c.loop-line.set)) (replays_each R (states_of g.P.Path.device c.args.set.now) c.args.lines.now) _ _ _ _ _ _ so h) c.drain_each.ensures.err
