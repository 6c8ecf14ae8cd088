use Rattle.std.proofs.lemmas.Result.{on_ok_weaker}
use Rattle.tcmu_types.specs.Views.{event_data, answer_data}
use Rattle.load_run.proofs.Tallying.{played_one}
use Rattle.load_run.proofs.tally.play.Goals as goal

pub returns-clause-made : goal.returns-clause-made
returns-clause-made g c =
    on_ok_weaker c.note.result
    (λ h. played_one g.P.Path.relation _ _ (event_data c.args.event.now) (answer_data c.in_ok-answer.answer) _ _ c.in_ok-answer.ensures.makes c.in_ok-answer.ensures.accepts h)
    c.note.ensures
