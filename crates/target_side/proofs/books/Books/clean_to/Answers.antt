use Rattle.std.proofs.Common.{◌≡◌, length, sym, ap, ◌∙◌, arith}
use Rattle.region_model.specs.Sides.{TargetState}
use Rattle.region_model.specs.TargetCleans.{logged_or_broken}
use Rattle.target_side.specs.Cleaning.{clean_result}
use Rattle.target_side.proofs.Cleaned.{answer_fits, cleaned_whole, log_more, region_after}
use Rattle.target_side.proofs.books.Books.clean_to.Goals as goal

pub cleaned_answer-requires : goal.cleaned_answer-requires
cleaned_answer-requires c =
    let r = c.args.region.now in
    let t : TargetState = c.args.self.now in
    let whole = cleaned_whole r t c.clean_items.new.self c.args.tail c.requires.on c.requires.tail c.requires.end c.clean_items.ensures in
    let before : c.len-before.result ≡ length t.log = c.len-before.ensures ∙ ap (λ (x : TargetState). length x.log) c.self.view_is in
    let same = ap (λ (x : TargetState). length x.log) (c.shrink_area.ensures.same ∙ whole) in
    let more = log_more r t in
    omega (arith, more, same, before)

pub returns-clause-answer : goal.returns-clause-answer
returns-clause-answer c =
    let r = c.args.region.now in
    let t : TargetState = c.args.self.now in
    let whole = cleaned_whole r t c.clean_items.new.self c.args.tail c.requires.on c.requires.tail c.requires.end c.clean_items.ensures in
    let before : c.len-before.result ≡ length t.log = c.len-before.ensures ∙ ap (λ (x : TargetState). length x.log) c.self.view_is in
    c.cleaned_answer.ensures
    ∙ ap clean_result (ap (λ n. logged_or_broken n c.shrink_area.new.self) before ∙ sym (answer_fits r t c.shrink_area.new.self c.requires.on c.requires.end (c.shrink_area.ensures.same ∙ whole)))

pub returns-clause-target : goal.returns-clause-target
returns-clause-target c =
    c.shrink_area.ensures.same ∙ cleaned_whole c.args.region.now c.args.self.now c.clean_items.new.self c.args.tail c.requires.on c.requires.tail c.requires.end c.clean_items.ensures

pub returns-clause-region : goal.returns-clause-region
returns-clause-region c =
    let whole = cleaned_whole c.args.region.now c.args.self.now c.clean_items.new.self c.args.tail c.requires.on c.requires.tail c.requires.end c.clean_items.ensures in
    region_after c.args.region.now c.shrink_area.new.region c.args.self.now c.clean_items.new.self c.len-count.result whole (c.len-count.ensures ∙ ap (λ (x : TargetState). length x.rows) c.self.view_is) c.shrink_area.ensures.region
