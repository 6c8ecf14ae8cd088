use Rattle.std.proofs.Common.{sym, ap, ◌∙◌}
use Rattle.region_model.specs.TargetCleans.{BadTail}
use Rattle.target_side.specs.Cleaning.{clean_result}
use Rattle.target_side.proofs.Cleaned.{answer_kept, answer_tail, cleaned_kept, cleaned_tail, region_kept, tail_judged}
use Rattle.target_side.proofs.books.Books.clean.Goals as goal

pub returns-in-Some-clause-answer : goal.returns-in-Some-clause-answer
returns-in-Some-clause-answer c = ap clean_result (sym (answer_kept c.args.region.now c.args.self.now c.in-Some.id (sym c.in-Some.ensures)))

pub returns-in-Some-clause-target : goal.returns-in-Some-clause-target
returns-in-Some-clause-target c = sym (cleaned_kept c.args.region.now c.args.self.now c.in-Some.id (sym c.in-Some.ensures))

pub returns-in-Some-clause-region : goal.returns-in-Some-clause-region
returns-in-Some-clause-region c = sym (region_kept c.args.region.now c.args.self.now (cleaned_kept c.args.region.now c.args.self.now c.in-Some.id (sym c.in-Some.ensures)))

pub returns-then-not-is_end-clause-answer : goal.returns-then-not-is_end-clause-answer
returns-then-not-is_end-clause-answer c =
    let fits = tail_judged c.args.region.now c.args.self.now c.tail-tail.result c.is_end.result c.tail-tail.ensures c.is_end.ensures in
    ap (λ n. clean_result (BadTail n)) c.tail-tail.ensures ∙ ap clean_result (sym (answer_tail c.args.region.now c.args.self.now (sym c.in_default.ensures) (sym fits ∙ c.if-not-is_end.true)))

pub returns-then-not-is_end-clause-target : goal.returns-then-not-is_end-clause-target
returns-then-not-is_end-clause-target c =
    let fits = tail_judged c.args.region.now c.args.self.now c.tail-tail.result c.is_end.result c.tail-tail.ensures c.is_end.ensures in
    sym (cleaned_tail c.args.region.now c.args.self.now (sym c.in_default.ensures) (sym fits ∙ c.if-not-is_end.true))

pub returns-then-not-is_end-clause-region : goal.returns-then-not-is_end-clause-region
returns-then-not-is_end-clause-region c =
    let fits = tail_judged c.args.region.now c.args.self.now c.tail-tail.result c.is_end.result c.tail-tail.ensures c.is_end.ensures in
    sym (region_kept c.args.region.now c.args.self.now (cleaned_tail c.args.region.now c.args.self.now (sym c.in_default.ensures) (sym fits ∙ c.if-not-is_end.true)))

pub clean_to-requires-clause-end : goal.clean_to-requires-clause-end
clean_to-requires-clause-end c = sym (tail_judged c.args.region.now c.args.self.now c.tail-tail.result c.is_end.result c.tail-tail.ensures c.is_end.ensures) ∙ c.if-not-is_end.false
