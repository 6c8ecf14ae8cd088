use Rattle.std.proofs.Common.{◌≡◌, List, Some, true, option_and_then, sym, ap, subst, ◌∙◌}
use Rattle.tcmu_types.specs.Data.{Spared}
use Rattle.tcmu_types.specs.Lists.{IsFirst, first_of, without_first}
use Rattle.tcmu_types.proofs.Firsts.{first_of_at, first_of_none, without_first_at}
use Rattle.region_model.specs.HandSteps.{hand_has, hand_responded}
use Rattle.region_model.specs.Sides.{InHand}
use Rattle.ring_path.specs.Hands.{AreInHand, owed_at, with_its_reply}
use Rattle.ring_path.proofs.InHands.{hand_taken, some_there}
use Rattle.ring_path.proofs.hand.Hand.take_answered.Goals as goal

pub leave-requires-clause-some : goal.leave-requires-clause-some
leave-requires-clause-some c =
    let a = c.self.inside in
    let s = c.args.serial in
    let e = ap (λ (x : Spared InHand). x.items) c.self.view_is in
    let f = subst (λ (xs : List InHand). IsFirst (owed_at true s) xs c.in_ok-at.at) (sym e) c.in_ok-at.ensures.0 in
    some_there true s a.jobs.items c.in_ok-at.at a.answered f c.self.invariant.answered_is

pub returns-in_err-at-clause-job : goal.returns-in_err-at-clause-job
returns-in_err-at-clause-job c =
    c.from_residual.ensures ∙ sym (ap (option_and_then with_its_reply) (first_of_none (owed_at true c.args.serial) c.args.self.now.items c.in_err-at.ensures))

pub invariant_of-self-2 : goal.invariant_of-self-2
invariant_of-self-2 c =
    let a = c.self.inside in
    let s = c.args.serial in
    let e = ap (λ (x : Spared InHand). x.items) c.self.view_is in
    let f = subst (λ (xs : List InHand). IsFirst (owed_at true s) xs c.in_ok-at.at) (sym e) c.in_ok-at.ensures.0 in
    subst (λ (xs : List InHand). AreInHand xs a.asked c.leave.new.self) (without_first_at (owed_at true s) a.jobs.items c.in_ok-at.at f ∙ sym c.in_ok-job.ensures.items)
    (hand_taken a.jobs.items a.asked a.answered c.leave.new.self s c.in_ok-at.at c.self.invariant f c.leave.ensures.least c.leave.ensures.count)

pub returns-clause-job : goal.returns-clause-job
returns-clause-job c =
    let a = c.self.inside in
    let s = c.args.serial in
    let e = ap (λ (x : Spared InHand). x.items) c.self.view_is in
    let f = subst (λ (xs : List InHand). IsFirst (owed_at true s) xs c.in_ok-at.at) (sym e) c.in_ok-at.ensures.0 in
    let taken : first_of (owed_at true s) a.jobs.items ≡ Some c.in_ok-job.job = first_of_at (owed_at true s) a.jobs.items c.in_ok-at.at c.in_ok-job.job f ∙ ap Some (sym c.in_ok-job.ensures.value) in
    subst (λ (xs : List InHand). c.into_answered.result ≡ option_and_then with_its_reply (first_of (owed_at true s) xs)) e (c.into_answered.ensures ∙ sym (ap (option_and_then with_its_reply) taken))

pub returns-clause-rest : goal.returns-clause-rest
unfolding hand_responded
returns-clause-rest c =
    let a = c.self.inside in
    let s = c.args.serial in
    let e = ap (λ (x : Spared InHand). x.items) c.self.view_is in
    let f = subst (λ (xs : List InHand). IsFirst (hand_has s) xs c.in_ok-at.at) (sym e) c.in_ok-at.ensures.1 in
    λ there. c.in_ok-job.ensures.items ∙ sym (without_first_at (hand_has s) a.jobs.items c.in_ok-at.at f) ∙ ap (without_first (hand_has s)) e
