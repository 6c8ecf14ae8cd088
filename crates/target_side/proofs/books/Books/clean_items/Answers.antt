use Rattle.std.proofs.Common.{◌≡◌, length, sym, ap, ◌∙◌, arith}
use Rattle.region_model.specs.Sides.{TargetState}
use Rattle.target_side.proofs.Cleaned.{going_early, going_end, going_step}
use Rattle.target_side.proofs.books.Books.clean_items.Goals as goal

pub loop-preserved : goal.loop-preserved
loop-preserved c =
    let total : c.len-end.result ≡ length c.args.self.now.items = c.len-end.ensures ∙ ap (λ (t : TargetState). length t.items) c.self.view_is in
    going_step c.args.region.now c.args.tail c.args.self.now c.loop.self c.clean_first.new.self c.loop.counter c.len-end.result c.loop.invariant total c.loop-test.true
    (sym c.is_cleaned_to.ensures ∙ c.if-is_cleaned_to.false) c.clean_first.ensures

pub returns-then-is_cleaned_to : goal.returns-then-is_cleaned_to
returns-then-is_cleaned_to c =
    going_early c.args.region.now c.args.tail c.args.self.now c.loop.self c.loop.counter c.loop.invariant (sym c.is_cleaned_to.ensures ∙ c.if-is_cleaned_to.true)

pub returns : goal.returns
returns c =
    let total : c.len-end.result ≡ length c.args.self.now.items = c.len-end.ensures ∙ ap (λ (t : TargetState). length t.items) c.self.view_is in
    going_end c.args.region.now c.args.tail c.args.self.now c.loop.self c.loop.counter c.len-end.result c.loop.invariant total (omega (arith, c.loop-test.false))
