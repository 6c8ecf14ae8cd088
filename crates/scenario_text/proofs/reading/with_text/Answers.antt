use Rattle.std.proofs.Common.{◌≡◌, ◌∙◌, [], sym, refl}
use Rattle.std.proofs.lemmas.Bool.{eqb-true}
use Rattle.std.proofs.lemmas.List.{nil_from_length}
use Rattle.tcmu_types.specs.Fields.{before_hash, fields_of}
use Rattle.text_model.specs.Scenario.{with_text, with_fields}
use Rattle.scenario_text.proofs.reading.with_text.Goals as goal

pub returns-then-is_empty : goal.returns-then-is_empty
unfolding with_text with_fields fields_of
returns-then-is_empty c =
    let empty : c.before_hash-text.result.now ≡ [] = nil_from_length _ (eqb-true _ 0 (sym c.is_empty.ensures ∙ c.if-is_empty.true)) in
    let text : before_hash c.args.text.now ≡ [] = sym c.before_hash-text.ensures ∙ empty in
    rw text refl
