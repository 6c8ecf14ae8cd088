use Rattle.std.proofs.Common.{Some, false, sym, ap, ◌∙◌}
use Rattle.tcmu_types.specs.Data.{Spared}
use Rattle.region_model.specs.Sides.{InHand}
use Rattle.ring_path.specs.Hands.{owed_at}
use Rattle.tcmu_types.proofs.Firsts.{first_of_at, first_of_none}
use Rattle.ring_path.proofs.hand.Hand.asked.Goals as goal

pub returns-in-Some : goal.returns-in-Some
returns-in-Some c =
    let e = ap (λ (x : Spared InHand). x.items) c.self.view_is in
    let there = rw e at c.index.ensures in
    first_of_at (owed_at false c.args.serial) c.args.self.now.items c.in-Some.at c.index.result.now c.in-Some.ensures.0 ∙ ap Some (sym there)

pub returns-in-None : goal.returns-in-None
returns-in-None c = first_of_none (owed_at false c.args.serial) c.args.self.now.items c.in-None.ensures
