use Rattle.std.proofs.Common.{◌≡◌, ◌+◌, ◌∷◌, sym, ap, subst, ◌∙◌}
use Rattle.tcmu_types.specs.declared.answer.Enter.TheVariants as enter
use Rattle.tcmu_model.specs.Device.{Delayed}
use Rattle.region_model.specs.Sides.{TargetState}
use Rattle.region_model.specs.TargetSteps.{deadline_in, target_enter_answer}
use Rattle.ring_laws.proofs.target_over_any_bytes.AnyRows.{rows_few}
use Rattle.target_side.specs.Books.{books_of}
use Rattle.target_side.specs.Kept.{Kept}
use Rattle.target_side.specs.Submits.{Entered}
use Rattle.target_side.proofs.Laying.{enters, first_last}
use Rattle.target_side.proofs.Refused.{answers_empty, answers_entered, answers_full_blocks, answers_full_ring, empty, enter_full_blocks, enter_full_ring, popped}
use Rattle.target_side.proofs.books.Books.enter.Goals as goal

pub returns-in_default-clause-answer : goal.returns-in_default-clause-answer
returns-in_default-clause-answer c = answers_empty c.args.self.now (ap (λ (t : TargetState). t.delayed) (sym c.self.view_is) ∙ c.in_default.ensures)

pub returns-in_default-clause-entered : goal.returns-in_default-clause-entered
returns-in_default-clause-entered c = empty c.args.region.now c.args.self.now

pub returns-then-need-free-clause-answer : goal.returns-then-need-free-clause-answer
returns-then-need-free-clause-answer c =
    subst (λ (t : TargetState). enter.FullRing c.need-need.result c.free-free.result ≡ target_enter_answer t) c.self.view_is
    (answers_full_ring _ (record { serial = c.first-2.inside.serial; command = c.first-2.inside.command; leaves = c.first-2.inside.leaves }) c.in-Some.ensures.rest c.length_of-len.result c.need-need.result c.free-free.result (record {
      first = c.in-Some.ensures.is ∙ ap (λ (w : Delayed). w ∷ c.in-Some.ensures.rest) (sym c.first-2.view_is);
      long = c.length_of-len.ensures.value;
      needs = c.need-need.ensures;
      left = c.free-free.ensures;
    }) c.if-need-free.true)

pub returns-then-need-free-clause-entered : goal.returns-then-need-free-clause-entered
returns-then-need-free-clause-entered c = enter_full_ring c.args.region.now c.args.self.now c.need-need.result c.free-free.result

pub returns-then-blocks-left-clause-answer : goal.returns-then-blocks-left-clause-answer
returns-then-blocks-left-clause-answer c =
    subst (λ (t : TargetState). enter.FullBlocks c.blocks_for-blocks.result c.free_blocks-left.result ≡ target_enter_answer t) c.self.view_is
    (answers_full_blocks _ (record { serial = c.first-2.inside.serial; command = c.first-2.inside.command; leaves = c.first-2.inside.leaves }) c.in-Some.ensures.rest c.length_of-len.result c.need-need.result c.free-free.result c.blocks_for-blocks.result c.free_blocks-left.result (record {
      first = c.in-Some.ensures.is ∙ ap (λ (w : Delayed). w ∷ c.in-Some.ensures.rest) (sym c.first-2.view_is);
      long = c.length_of-len.ensures.value;
      needs = c.need-need.ensures;
      left = c.free-free.ensures;
    }) c.if-need-free.false c.blocks_for-blocks.ensures.value c.free_blocks-left.ensures c.if-blocks-left.true)

pub returns-then-blocks-left-clause-entered : goal.returns-then-blocks-left-clause-entered
returns-then-blocks-left-clause-entered c = enter_full_blocks c.args.region.now c.args.self.now c.blocks_for-blocks.result c.free_blocks-left.result

pub lay-requires-clause-few : goal.lay-requires-clause-few
lay-requires-clause-few c = let k = subst Kept (sym c.self.view_is) c.requires.kept in rows_few _ k.settings k.ring k.rows

pub lay-requires-clause-last : goal.lay-requires-clause-last
lay-requires-clause-last c =
    let k = subst Kept (sym c.self.view_is) c.requires.kept in
    first_last _ _ (record { serial = c.first-2.inside.serial; command = c.first-2.inside.command; leaves = c.first-2.inside.leaves }) c.in-Some.ensures.rest k (c.in-Some.ensures.is ∙ ap (λ (w : Delayed). w ∷ c.in-Some.ensures.rest) (sym c.first-2.view_is)) (λ i. c.first-2.inside.serial) (c.deadline-due.ensures ∙ ap deadline_in (sym c.self.view_is))

pub returns-clause-answer : goal.returns-clause-answer
returns-clause-answer c =
    subst (λ (t : TargetState). enter.Entered c.first-2.inside.serial ≡ target_enter_answer t) c.self.view_is
    (answers_entered _ (record { serial = c.first-2.inside.serial; command = c.first-2.inside.command; leaves = c.first-2.inside.leaves }) c.in-Some.ensures.rest c.length_of-len.result c.need-need.result c.free-free.result c.blocks_for-blocks.result c.free_blocks-left.result (record {
      first = c.in-Some.ensures.is ∙ ap (λ (w : Delayed). w ∷ c.in-Some.ensures.rest) (sym c.first-2.view_is);
      long = c.length_of-len.ensures.value;
      needs = c.need-need.ensures;
      left = c.free-free.ensures;
    }) c.if-need-free.false c.blocks_for-blocks.ensures.value c.free_blocks-left.ensures c.if-blocks-left.false)

pub returns-clause-entered : goal.returns-clause-entered
returns-clause-entered c =
    let b = c.self.inside in
    let first = c.in-Some.ensures.is ∙ ap (λ (w : Delayed). w ∷ c.in-Some.ensures.rest) (sym c.first-2.view_is) in
    subst
    (λ (t : TargetState). Entered c.args.region.now t (enter.Entered c.first-2.inside.serial) c.lay.new.region (books_of b.flags b.timeout b.qfull b.now b.blocked b.accepted c.lay.new.self c.pop-entered.new.self.items (b.laid + 1) b.cleared b.broken b.log.items))
    c.self.view_is
    (enters c.args.region.now c.lay.new.region b.flags b.timeout b.qfull b.now b.blocked b.accepted b.delayed.items c.pop-entered.new.self.items c.in-Some.ensures.rest (record { serial = c.first-2.inside.serial; command = c.first-2.inside.command; leaves = c.first-2.inside.leaves }) b.laid b.cleared b.broken b.log.items b.entries c.lay.new.self c.in_ok-lay.field-0 c.deadline-due.result
    first (popped c.pop-entered.result b.delayed.items c.pop-entered.new.self.items (record { serial = c.first-2.inside.serial; command = c.first-2.inside.command; leaves = c.first-2.inside.leaves }) c.in-Some.ensures.rest c.pop-entered.ensures first) (c.deadline-due.ensures ∙ ap deadline_in (sym c.self.view_is)) c.in_ok-lay.ensures.laid)
