-- Lines that are ignored.
use Rattle.std.proofs.Common.{◌≡◌, [], Ok, refl}
use Rattle.tcmu_types.specs.Fields.{before_hash, fields_of}
use Rattle.text_model.specs.ScenarioData.{ScenarioData}
use Rattle.text_model.specs.Scenario.{with_fields, with_text}
use Rattle.text_model.specs.Text.{completion_text, end_text}
use Rattle.text_model.specs.declared.limits.Limits.{Limits}
use Rattle.text_laws.specs.Lines.{CommentsIgnored, CompletionsIgnored, EndsIgnored}

pub comments_ignored : CommentsIgnored
unfolding with_text before_hash fields_of with_fields
comments_ignored limits s text = refl

pub empty_ignored : (limits : Limits) (s : ScenarioData) → with_text limits s [] ≡ Ok s
unfolding with_text before_hash fields_of with_fields
empty_ignored limits s = refl

pub completions_ignored : CompletionsIgnored
unfolding completion_text
completions_ignored name c = (_, refl)

pub ends_ignored : EndsIgnored
unfolding end_text
ends_ignored name n = (_, refl)
