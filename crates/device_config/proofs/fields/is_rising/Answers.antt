use Rattle.std.specs.Prelude.{nat_lt}
use Rattle.std.proofs.lemmas.List.Sorted.{answers_always}
use Rattle.device_config.proofs.Rising.{rises}
use Rattle.device_config.proofs.fields.is_rising.Goals as goal

pub returns : goal.returns
returns c = rises c.args.numbers.now _ (c.is_sorted_by.ensures.cases (λ x y. nat_lt x y) (answers_always _ _ _ (λ f a r g called. search)))
