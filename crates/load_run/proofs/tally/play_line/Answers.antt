use Rattle.std.proofs.Common.{ap, sym, ◌∙◌}
use Rattle.std.proofs.lemmas.Result.{on_ok_weaker}
use Rattle.tcmu_types.specs.Views.{event_data}
use Rattle.text_model.specs.ScenarioData.{LineData}
use Rattle.scenario_text.specs.Views.{kind_data}
use Rattle.load_run.proofs.Makeable.{can_of_fit}
use Rattle.load_run.proofs.Tallying.{line_played}
use Rattle.load_run.proofs.tally.play_line.Goals as goal

pub play-requires-clause-can : goal.play-requires-clause-can
play-requires-clause-can g c =
    let is = sym (ap (λ (x : LineData). x.what) c.line.view_is) ∙ ap kind_data c.in-Event.is in
    can_of_fit (event_data c.in-Event.event) _ is c.requires.fit

pub returns-in-Event-clause-made : goal.returns-in-Event-clause-made
returns-in-Event-clause-made g c =
    let is = sym (ap (λ (x : LineData). x.what) c.line.view_is) ∙ ap kind_data c.in-Event.is in
    on_ok_weaker c.play.result (λ h. line_played g.P.Path.relation _ _ (event_data c.in-Event.event) _ _ _ is h) c.play.ensures.made
