use Rattle.std.proofs.Common.{Some, sym, ap, ◌∙◌}
use Rattle.tcmu_types.specs.Data.{Spared}
use Rattle.tcmu_model.specs.Device.{Unfinished, is_at}
use Rattle.tcmu_types.proofs.Firsts.{first_of_at, first_of_none}
use Rattle.tcmu_path.proofs.rows.Rows.find.Goals as goal

pub returns-in-Some : goal.returns-in-Some
returns-in-Some c =
    let e = ap (λ (x : Spared Unfinished). x.items) c.self.view_is in
    let there = rw e at c.index.ensures in
    first_of_at (is_at c.args.serial c.args.state) c.args.self.now.items c.in-Some.at c.index.result.now c.in-Some.ensures ∙ ap Some (sym there)

pub returns-in-None : goal.returns-in-None
returns-in-None c = first_of_none (is_at c.args.serial c.args.state) c.args.self.now.items c.in-None.ensures
