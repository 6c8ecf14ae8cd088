use Rattle.std.proofs.Common.{Some, option_map, sym, ap, ◌∙◌}
use Rattle.tcmu_types.specs.Data.{Spared}
use Rattle.region_model.specs.HandSteps.{hand_has}
use Rattle.region_model.specs.Sides.{InHand}
use Rattle.tcmu_types.proofs.Firsts.{first_of_at}
use Rattle.ring_path.proofs.hand.Hand.job.Goals as goal

pub returns-in-Some : goal.returns-in-Some
returns-in-Some c =
    let e = ap (λ (x : Spared InHand). x.items) c.self.view_is in
    let there = rw e at c.index-found.ensures in
    ap (option_map (λ (h : InHand). h.job)) (first_of_at (hand_has c.args.serial) c.args.self.now.items c.in-Some.at c.index-found.result.now c.in-Some.ensures ∙ ap Some (sym there)) ∙ ap Some (sym c.job.ensures)
