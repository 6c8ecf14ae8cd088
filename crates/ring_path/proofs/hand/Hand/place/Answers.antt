use Rattle.std.proofs.Common.{◌≤◌, List, length, sym, ap, subst, arith}
use Rattle.tcmu_types.specs.Data.{Spared}
use Rattle.tcmu_types.specs.Numbers.{IsRising}
use Rattle.region_model.specs.HandSteps.{hand_has}
use Rattle.region_model.specs.Sides.{InHand}
use Rattle.ring_path.specs.Hands.{serials_in_hand}
use Rattle.ring_path.proofs.InHands.{has_serial_is}
use Rattle.ring_path.proofs.Rising.{none_at, none_at_end}
use Rattle.ring_path.proofs.hand.Hand.place.Goals as goal

pub returns-then-at-len : goal.returns-then-at-len
returns-then-at-len c =
    let s = c.args.serial in
    let us : List InHand = c.args.self.now.items in
    let e = ap (λ (x : Spared InHand). x.items) c.self.view_is in
    let r : IsRising (serials_in_hand us) = subst (λ (xs : List InHand). IsRising (serials_in_hand xs)) e c.self.invariant.rising in
    let l : length us ≤ c.first_from-at.result = omega (arith, ap (λ (xs : List InHand). length xs) e, c.self.inside.jobs.ok.0, c.len.ensures, c.if-at-len.true) in
    none_at_end (hand_has s) s us c.first_from-at.result (has_serial_is s) r c.first_from-at.ensures.below l

pub returns-else-is_of : goal.returns-else-is_of
returns-else-is_of c =
    let s = c.args.serial in
    let us : List InHand = c.args.self.now.items in
    let e = ap (λ (x : Spared InHand). x.items) c.self.view_is in
    let r : IsRising (serials_in_hand us) = subst (λ (xs : List InHand). IsRising (serials_in_hand xs)) e c.self.invariant.rising in
    none_at (hand_has s) s us c.first_from-at.result c.index-job.result.now (has_serial_is s) r c.first_from-at.ensures.below c.first_from-at.ensures.above
    (rw e at c.index-job.ensures) (sym c.if-is_of.ensures)
