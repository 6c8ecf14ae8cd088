use Rattle.std.proofs.lemmas.Result.{on_ok_weaker, on_err_weaker}
use Rattle.tcmu_types.specs.Views.{event_data, answer_data}
use Rattle.tcmu_top.proofs.Telling.{on_err}
use Rattle.tcmu_top.proofs.Playing.{log_longer, told_of, stopped_of, nothing_came}
use Rattle.tcmu_top.proofs.lines.play.Goals as goal

pub behind-logged-requires : goal.behind-logged-requires
behind-logged-requires g c =
    log_longer g.P.Path.relation (g.P.Path.device c.args.path.now) (g.P.Path.device c.make_event.new.path) (event_data c.args.event.now) (answer_data c.in_ok-answer.answer) _ _ c.in_ok-answer.ensures.makes c.log-before.ensures c.log.ensures

pub returns-in_err-answer-clause-err : goal.returns-in_err-answer-clause-err
returns-in_err-answer-clause-err g c =
    on_err c.from_residual.result (λ at. nothing_came g.P.Path.relation at c.args.device.now _ _ (event_data c.args.event.now) _ c.in_err-answer.ensures.unchanged.device)

pub returns-clause-ok : goal.returns-clause-ok
returns-clause-ok g c =
    on_ok_weaker c.write_entry.result
    (λ h at. told_of g.P.Path.relation at c.args.device.now _ _ (event_data c.args.event.now) (answer_data c.in_ok-answer.answer) c.behind-logged.result.now _ _ _ _ c.in_ok-answer.ensures.makes c.log-before.ensures c.log.ensures c.behind-logged.ensures h)
    c.write_entry.ensures.ok

pub returns-clause-err : goal.returns-clause-err
returns-clause-err g c =
    on_err_weaker c.write_entry.result
    (λ h at. stopped_of g.P.Path.relation at c.args.device.now _ _ (event_data c.args.event.now) (answer_data c.in_ok-answer.answer) c.behind-logged.result.now _ _ _ _ c.in_ok-answer.ensures.makes c.log-before.ensures c.log.ensures c.behind-logged.ensures h)
    c.write_entry.ensures.err
