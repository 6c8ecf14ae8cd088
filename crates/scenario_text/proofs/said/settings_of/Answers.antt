use Rattle.std.proofs.Common.{sym, ◌∙◌}
use Rattle.text_model.proofs.SaidLaws.{settings_made}
use Rattle.scenario_text.specs.LineViews.{device_data}
use Rattle.scenario_text.proofs.said.settings_of.Goals as goal

pub invariant_of-result : goal.invariant_of-result
invariant_of-result c = settings_made (device_data c.args.f.now) _
    (sym c.ring_of.ensures ∙ c.in_ok-ring.ensures.ok_part)
    (sym c.small_number.ensures.value ∙ c.in_ok-blocks.ensures.ok_part)
    (sym c.small_number-2.ensures.value ∙ c.in_ok-timeout.ensures.ok_part)
    (sym c.qfull_of.ensures.value ∙ c.in_ok-qfull.ensures.ok_part)
    (sym c.pages_of.ensures.value ∙ c.in_ok-pages.ensures.ok_part)
