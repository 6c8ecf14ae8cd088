use Rattle.std.proofs.Common.{arith, subst, sym}
use Rattle.text_model.specs.ScenarioRules.{IsScenarioWithin}
use Rattle.scenario_text.proofs.Limits.{read_to_the_end}
use Rattle.scenario_text.proofs.reading.read_within.Goals as goal

pub returns-in-Ok-with_text-clause-within : goal.returns-in-Ok-with_text-clause-within
returns-in-Ok-with_text-clause-within c =
    subst (IsScenarioWithin c.args.limits.now) (sym c.into_scenario.ensures)
    (read_to_the_end c.args.limits.now c.args.bytes.now c.loop-text.rest.now c.loop-text.number c.loop-text.so_far _ (omega (arith, c.if-bytes-limits.false)) c.loop-text.invariant.rest c.in_default.ensures.none c.in-Ok-with_text.ensures)
