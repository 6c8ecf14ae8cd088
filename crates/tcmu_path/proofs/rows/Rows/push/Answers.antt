use Rattle.std.proofs.Common.{◌<◌, List, sym, ap, subst}
use Rattle.tcmu_types.specs.Data.{Spared}
use Rattle.tcmu_model.specs.Device.{Unfinished}
use Rattle.tcmu_types.specs.Lists.{Every}
use Rattle.tcmu_path.specs.Tallies.{serials_of, AreRows}
use Rattle.tcmu_path.proofs.RowsAfter.{rows_pushed}
use Rattle.tcmu_path.proofs.rows.Rows.push.Goals as goal

pub invariant_of-self : goal.invariant_of-self
invariant_of-self c =
    let a = c.self.inside in
    let e = ap (λ (x : Spared Unfinished). x.items) c.self.view_is in
    let above = subst (λ (xs : List Unfinished). Every (λ s. s < c.args.row.serial) (serials_of xs)) (sym e) c.requires.above in
    subst (λ (xs : List Unfinished). AreRows xs a.out a.handled) (sym c.push_back_reserved.ensures.items) (rows_pushed a.rows.items c.args.row a.out a.handled c.self.invariant c.requires.waits above)
