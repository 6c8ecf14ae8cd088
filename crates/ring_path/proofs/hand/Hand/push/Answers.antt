use Rattle.std.proofs.Common.{◌∷◌, ◌++◌, [], List, None, refl, sym, ap, subst}
use Rattle.tcmu_types.specs.Data.{Spared}
use Rattle.tcmu_types.specs.Numbers.{IsRising}
use Rattle.region_model.specs.Sides.{InHand}
use Rattle.ring_path.specs.Hands.{AreInHand, serials_in_hand}
use Rattle.ring_path.proofs.InHands.{hand_pushed}
use Rattle.ring_path.proofs.hand.Hand.push.Goals as goal

pub invariant_of-self : goal.invariant_of-self
invariant_of-self c =
    let a = c.self.inside in
    let e = ap (λ (x : Spared InHand). x.items) c.self.view_is in
    let h : InHand = record { serial = c.args.serial; job = c.args.job; reply = None } in
    let above = subst (λ (xs : List InHand). IsRising (serials_in_hand (xs ++ h ∷ []))) (sym e) c.requires.above in
    subst (λ (xs : List InHand). AreInHand xs c.enter.new.self a.answered) (sym c.push_back_reserved.ensures.items)
    (hand_pushed a.jobs.items h a.asked a.answered c.enter.new.self c.self.invariant refl above c.enter.ensures.least c.enter.ensures.count)
