use Rattle.std.proofs.Common.{List, Some, false, sym, ap, subst, ◌∙◌}
use Rattle.std.proofs.lemmas.Bool.{false≢true}
use Rattle.tcmu_types.specs.Data.{Spared}
use Rattle.tcmu_types.specs.Lists.{IsFirst, with_first}
use Rattle.tcmu_types.proofs.Firsts.{first_of_at, with_first_set}
use Rattle.region_model.specs.HandSteps.{hand_answered, hand_has, with_answer}
use Rattle.region_model.specs.Sides.{InHand}
use Rattle.ring_path.specs.Hands.{AreInHand, owed_at}
use Rattle.ring_path.proofs.InHands.{hand_replied, some_there}
use Rattle.ring_path.proofs.hand.Hand.answer.Goals as goal

pub leave-requires-clause-some : goal.leave-requires-clause-some
leave-requires-clause-some c =
    let a = c.self.inside in
    let s = c.args.serial in
    let e = ap (λ (x : Spared InHand). x.items) c.self.view_is in
    let f = subst (λ (xs : List InHand). IsFirst (owed_at false s) xs c.in-Some.at) (sym e) c.in-Some.ensures.0 in
    some_there false s a.jobs.items c.in-Some.at a.asked f c.self.invariant.asked_is

pub answer-requires : goal.answer-requires
answer-requires c =
    let p = owed_at false c.args.serial in
    let x = c.index_mut-job.result.now in
    let e = ap (λ (y : Spared InHand). y.items) c.self.view_is in
    let there = rw e at c.index_mut-job.ensures.value in
    c.requires.fits x (first_of_at p c.args.self.now.items c.in-Some.at x c.in-Some.ensures.0 ∙ ap Some (sym there))

pub invariant_of-self : goal.invariant_of-self
invariant_of-self c =
    let a = c.self.inside in
    let s = c.args.serial in
    let e = ap (λ (x : Spared InHand). x.items) c.self.view_is in
    let f = subst (λ (xs : List InHand). IsFirst (owed_at false s) xs c.in-Some.at) (sym e) c.in-Some.ensures.0 in
    subst (λ (xs : List InHand). AreInHand xs c.leave.new.self c.enter.new.self) (sym (with_first_set (owed_at false s) (with_answer c.args.reply) a.jobs.items c.in-Some.at c.index_mut-job.result.now c.answer.new.self f c.index_mut-job.ensures.value c.answer.ensures))
    (hand_replied a.jobs.items a.asked a.answered c.leave.new.self c.enter.new.self s c.in-Some.at c.args.reply c.self.invariant f c.leave.ensures.least c.leave.ensures.count c.enter.ensures.least c.enter.ensures.count)

pub returns-in-Some : goal.returns-in-Some
unfolding hand_answered
returns-in-Some c =
    let s = c.args.serial in
    let e = ap (λ (x : Spared InHand). x.items) c.self.view_is in
    let f = subst (λ (xs : List InHand). IsFirst (hand_has s) xs c.in-Some.at) (sym e) c.in-Some.ensures.1 in
    with_first_set (hand_has s) (with_answer c.args.reply) c.self.inside.jobs.items c.in-Some.at c.index_mut-job.result.now c.answer.new.self f c.index_mut-job.ensures.value c.answer.ensures ∙ ap (with_first (hand_has s) (with_answer c.args.reply)) e

pub returns-in_default : goal.returns-in_default
returns-in_default c = absurd (false≢true (sym c.in_default.ensures ∙ c.requires.asked))
