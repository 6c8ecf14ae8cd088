use Rattle.std.proofs.Common.{◌≡◌, ℕ, ◌-◌, ◌==◌, cond, length, sym, ap, ◌∙◌, arith}
use Rattle.std.specs.List.{count_by}
use Rattle.tcmu_types.specs.ByteFields.{le, put}
use Rattle.tcmu_types.specs.declared.answer.Publish.TheVariants as publish
use Rattle.region_model.specs.Layout.{tail_place}
use Rattle.region_model.specs.Regions.{RegionState}
use Rattle.region_model.specs.Sides.{UserState}
use Rattle.region_model.specs.UserSteps.{is_cmd, moving, moving_items, region_published, user_publish_answer, user_published}
use Rattle.user_lib.proofs.Moved.{all_published, commands_less, commands_none, moving_less, same_published}
use Rattle.user_lib.proofs.books.UserBooks.publish.Goals as goal

pub loop-preserved : goal.loop-preserved
loop-preserved c =
    let m = c.loop-test.ensures.moved in
    let i = c.loop.invariant in
    let less = moving_less c.loop.self c.move_item.new.self m.0 m.1 in
    let n = ap length m.1.items in
    let k = commands_less c.loop.self c.move_item.new.self m.0 m.1 in
    let p = ap (λ (v : UserState). v.published) m.1.user in
    let a = i.items in
    let b = i.commands in
    record { same = same_published c.loop.self c.move_item.new.self m.0 m.1 ∙ i.same; items = omega (arith, a, less, n); commands = omega (arith, b, k, p) }

pub returns-clause-answer : goal.returns-clause-answer
unfolding user_publish_answer
returns-clause-answer c =
    let u : UserState = c.args.self.now in
    let here = c.self-2.view_is ∙ c.loop-test.ensures.same in
    let none = c.loop-test.ensures.none in
    let held = c.len-held.ensures ∙ (c.self.inside.items.ok.0 ∙ ap (λ (x : UserState). length x.items) c.self.view_is) in
    let left = c.len.ensures ∙ (c.self-2.inside.items.ok.0 ∙ ap (λ (x : UserState). length x.items) here) in
    let i = c.loop.invariant.items in
    let j = c.loop.invariant.commands in
    let zero = commands_none c.loop.self none in
    let first = ap (λ (x : UserState). x.published) c.self.view_is in
    let last = ap (λ (x : UserState). x.published) here in
    let a : c.len-held.result - c.len.result ≡ moving u = omega (arith, held, left, none, i) in
    let b : c.self-2.inside.published - c.self.inside.published ≡ count_by is_cmd (moving_items u) = omega (arith, first, last, zero, j) in
    ap (λ (n : ℕ). publish.Moved n (c.self-2.inside.published - c.self.inside.published)) a ∙ ap (λ (n : ℕ). publish.Moved (moving u) n) b

pub returns-clause-user : goal.returns-clause-user
returns-clause-user c =
    let here = c.self-2.view_is ∙ c.loop-test.ensures.same in
    let low = c.self-2.invariant.sound.tail.below in
    let t = ap (λ (x : UserState). x.tail) here in
    let r = ap (λ (x : UserState). x.ring) here in
    c.loop-test.ensures.same ∙ (sym (all_published c.loop.self c.loop-test.ensures.none (omega (arith, low, t, r))) ∙ c.loop.invariant.same)

pub returns-clause-region : goal.returns-clause-region
unfolding region_published
returns-clause-region c =
    let u : UserState = c.args.self.now in
    let r : RegionState = c.args.region.now in
    let here = c.self-2.view_is ∙ c.loop-test.ensures.same in
    let none = c.loop-test.ensures.none in
    let low = c.self-2.invariant.sound.tail.below in
    let t = ap (λ (x : UserState). x.tail) here in
    let n = ap (λ (x : UserState). x.ring) here in
    let held = c.len-held.ensures ∙ (c.self.inside.items.ok.0 ∙ ap (λ (x : UserState). length x.items) c.self.view_is) in
    let left = c.len.ensures ∙ (c.self-2.inside.items.ok.0 ∙ ap (λ (x : UserState). length x.items) here) in
    let i = c.loop.invariant.items in
    let a : c.len-held.result - c.len.result ≡ moving u = omega (arith, held, left, none, i) in
    let end = sym (all_published c.loop.self none (omega (arith, low, t, n))) ∙ c.loop.invariant.same in
    let tail : c.self-2.inside.tail ≡ (user_published u).tail = t ∙ ap (λ (x : UserState). x.tail) end in
    c.write_tail.ensures
    ∙ (ap (λ (k : ℕ). cond (k == 0) r (record r { front = put r.front tail_place (le 4 c.self-2.inside.tail) })) a
    ∙ ap (λ (k : ℕ). cond (moving u == 0) r (record r { front = put r.front tail_place (le 4 k) })) tail)
