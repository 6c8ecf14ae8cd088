use Rattle.std.proofs.Common.{List, map, ap, sym, subst, ◌∙◌}
use Rattle.tcmu_types.specs.Data.{Spared}
use Rattle.tcmu_model.specs.Device.{Unfinished}
use Rattle.tcmu_path.specs.Tallies.{AreRows}
use Rattle.tcmu_model.specs.Events.{lose}
use Rattle.tcmu_path.specs.Room.{KeepsRoom}
use Rattle.tcmu_path.proofs.Rooms.{KeepsRoom-lose}
use Rattle.tcmu_path.proofs.RowsAfter.{rows_lost}
use Rattle.tcmu_path.proofs.rows.Rows.mark_lost.Goals as goal

pub invariant_of-self : goal.invariant_of-self
invariant_of-self c =
    let a = c.self.inside in
    subst (λ (us : List Unfinished). AreRows us c.new-self-inside.result c.new-self-inside-2.result) (sym c.lose_each.ensures)
    (rows_lost a.rows.items a.out a.handled c.new-self-inside.result c.new-self-inside-2.result c.args.answered.now c.self.invariant c.new-self-inside.ensures.least c.new-self-inside.ensures.count c.new-self-inside-2.ensures.least c.new-self-inside-2.ensures.count)

pub returns-clause-kept : goal.returns-clause-kept
returns-clause-kept c =
    let e = ap (λ (x : Spared Unfinished). x.items) c.self.view_is in
    subst (λ (us : List Unfinished). KeepsRoom c.args.self.now.items us) (sym (c.lose_each.ensures ∙ ap (λ (us : List Unfinished). map (lose c.args.answered.now) us) e)) (KeepsRoom-lose c.args.answered.now c.args.self.now.items)
