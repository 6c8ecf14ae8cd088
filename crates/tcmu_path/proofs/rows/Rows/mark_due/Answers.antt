use Rattle.std.proofs.Common.{List, map, ap, sym, subst, ◌∙◌}
use Rattle.tcmu_types.specs.Data.{Spared}
use Rattle.tcmu_model.specs.Device.{Unfinished}
use Rattle.tcmu_path.specs.Tallies.{AreRows}
use Rattle.tcmu_model.specs.Events.{expire}
use Rattle.tcmu_path.specs.Room.{KeepsRoom}
use Rattle.tcmu_path.proofs.Rooms.{KeepsRoom-expire}
use Rattle.tcmu_path.proofs.RowsAfter.{rows_expired}
use Rattle.tcmu_path.proofs.rows.Rows.mark_due.Goals as goal

pub invariant_of-self : goal.invariant_of-self
invariant_of-self c =
    let a = c.self.inside in
    subst (λ (us : List Unfinished). AreRows us a.out a.handled) (sym c.expire_each.ensures) (rows_expired a.rows.items a.out a.handled c.args.now c.self.invariant)

pub returns-clause-kept : goal.returns-clause-kept
returns-clause-kept c =
    let e = ap (λ (x : Spared Unfinished). x.items) c.self.view_is in
    subst (λ (us : List Unfinished). KeepsRoom c.args.self.now.items us) (sym (c.expire_each.ensures ∙ ap (λ (us : List Unfinished). map (expire c.args.now) us) e)) (KeepsRoom-expire c.args.now c.args.self.now.items)
