use Rattle.std.proofs.Common.{refl}
use Rattle.std.specs.List.{flat_map}
use Rattle.std.proofs.lemmas.Result.{on_ok_weaker, on_err_weaker}
use Rattle.tcmu_types.specs.Views.{event_data, answer_data}
use Rattle.text_model.specs.Text.{event_line, completion_text}
use Rattle.tcmu_top.proofs.Telling.{front_first, front_behind, gained_more, on_err}
use Rattle.tcmu_top.proofs.writing.write_entry.Goals as goal

pub returns-in_err-write_event-clause-err : goal.returns-in_err-write_event-clause-err
returns-in_err-write_event-clause-err g c =
    on_err c.from_residual.result (front_first _ _ (event_line c.args.device.now.name c.args.device.now.settings.qfull (event_data c.args.event.now) (answer_data c.args.answer.now)) (flat_map (completion_text c.args.device.now.name) c.args.logged.now) _ refl c.in_err-write_event.ensures.err)

pub returns-clause-ok : goal.returns-clause-ok
returns-clause-ok g c = on_ok_weaker c.write_completions.result (λ h. gained_more _ _ _ _ _ c.in_ok-write_event.ensures.ok h) c.write_completions.ensures.ok

pub returns-clause-err : goal.returns-clause-err
returns-clause-err g c = on_err_weaker c.write_completions.result (λ h. front_behind _ _ _ _ _ _ refl c.in_ok-write_event.ensures.ok h) c.write_completions.ensures.err
