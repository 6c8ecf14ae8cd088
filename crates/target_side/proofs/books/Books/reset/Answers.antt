use Rattle.std.proofs.Common.{length, ap, ◌∙◌, arith}
use Rattle.region_model.specs.Sides.{TargetState}
use Rattle.region_model.specs.TargetCleans.{emptied_of, region_reset}
use Rattle.target_side.proofs.Cleaned.{answer_reset, log_emptied, log_more, reset_cleaned}
use Rattle.target_side.proofs.books.Books.reset.Goals as goal

pub overflow_sub-result : goal.overflow_sub-result
overflow_sub-result c =
    let more = log_more c.args.region.now c.args.self.now in
    let cleaned = ap (λ (t : TargetState). length t.log) c.clean.ensures.target in
    let emptied = log_emptied c.clean.new.self c.args.level in
    let after = ap (λ (t : TargetState). length t.log) c.empty.ensures in
    omega (arith, more, cleaned, emptied, after, c.logged-before.ensures, c.logged.ensures)

pub returns-clause-answer : goal.returns-clause-answer
returns-clause-answer c =
    answer_reset c.args.region.now c.args.self.now c.empty.new.self c.args.level c.logged-before.result c.logged.result c.logged-before.ensures
    (c.empty.ensures ∙ ap (λ (t : TargetState). emptied_of t c.args.level) c.clean.ensures.target) c.logged.ensures

pub returns-clause-region : goal.returns-clause-region
returns-clause-region c = c.empty_region.ensures ∙ (ap region_reset c.clean.ensures.region ∙ reset_cleaned c.args.region.now c.args.self.now)
