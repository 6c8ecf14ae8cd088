use Rattle.std.proofs.Common.{ap, sym, ◌∙◌}
use Rattle.std.proofs.lemmas.Result.{on_ok_weaker, on_err_weaker}
use Rattle.tcmu_types.specs.Views.{event_data}
use Rattle.text_model.specs.ScenarioData.{LineData}
use Rattle.scenario_text.specs.Views.{kind_data}
use Rattle.load_run.proofs.Makeable.{can_of_fit}
use Rattle.tcmu_top.proofs.Playing.{told_task, stopped_task, drained_task, drained_task_front}
use Rattle.tcmu_top.proofs.lines.play_line.Goals as goal

pub play-requires-clause-can : goal.play-requires-clause-can
play-requires-clause-can g c =
    let is = sym (ap (λ (x : LineData). x.what) c.line.view_is) ∙ ap kind_data c.in-Event.is in
    can_of_fit (event_data c.in-Event.event) _ is c.requires.fit

pub returns-in-Event-clause-ok : goal.returns-in-Event-clause-ok
returns-in-Event-clause-ok g c =
    let is = sym (ap (λ (x : LineData). x.what) c.line.view_is) ∙ ap kind_data c.in-Event.is in
    on_ok_weaker c.play.result (λ h at. told_task g.P.Path.relation at c.args.device.now _ _ (event_data c.in-Event.event) _ _ _ is (h at)) c.play.ensures.ok

pub returns-in-Event-clause-err : goal.returns-in-Event-clause-err
returns-in-Event-clause-err g c =
    let is = sym (ap (λ (x : LineData). x.what) c.line.view_is) ∙ ap kind_data c.in-Event.is in
    on_err_weaker c.play.result (λ h at. stopped_task g.P.Path.relation at c.args.device.now _ _ (event_data c.in-Event.event) _ _ _ is c.requires.sound c.requires.fit (h at)) c.play.ensures.err

pub returns-in-Drain-clause-ok : goal.returns-in-Drain-clause-ok
returns-in-Drain-clause-ok g c =
    let is = sym (ap (λ (x : LineData). x.what) c.line.view_is) ∙ ap kind_data c.in-Drain.is in
    on_ok_weaker c.drain.result (λ h at. drained_task g.P.Path.relation at c.args.device.now _ _ _ _ _ is (h at)) c.drain.ensures.ok

pub returns-in-Drain-clause-err : goal.returns-in-Drain-clause-err
returns-in-Drain-clause-err g c =
    let is = sym (ap (λ (x : LineData). x.what) c.line.view_is) ∙ ap kind_data c.in-Drain.is in
    on_err_weaker c.drain.result (λ h at. drained_task_front g.P.Path.relation at c.args.device.now _ _ _ _ _ is (h at)) c.drain.ensures.err
