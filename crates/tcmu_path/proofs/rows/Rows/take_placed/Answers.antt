use Rattle.std.proofs.Common.{◌≡◌, List, sym, ap, subst, ◌∙◌}
use Rattle.tcmu_types.specs.Data.{Spared}
use Rattle.tcmu_model.specs.declared.state.CommandState.TheVariants.{Placed}
use Rattle.tcmu_types.specs.Lists.{IsFirst, first_of, without_first}
use Rattle.tcmu_model.specs.Device.{Unfinished, is_at}
use Rattle.tcmu_types.proofs.Firsts.{first_of_none, without_first_none}
use Rattle.tcmu_path.specs.Tallies.{AreRows}
use Rattle.tcmu_path.proofs.RowsAfter.{rows_taken}
use Rattle.tcmu_path.proofs.Taking.{removed, removed_is}
use Rattle.tcmu_path.proofs.rows.Rows.take_placed.Goals as goal

pub invariant_of-self : goal.invariant_of-self
invariant_of-self c =
    let a = c.self.inside in
    let s = c.args.serial in
    let e = ap (λ (x : Spared Unfinished). x.items) c.self.view_is in
    let f = subst (λ (xs : List Unfinished). IsFirst (is_at s Placed) xs c.in-Some.at) (sym e) c.in-Some.ensures in
    subst (λ (xs : List Unfinished). AreRows xs a.out a.handled) (sym (removed (is_at s Placed) a.rows.items c.remove.new.self.items c.in-Some.at a.rows.len c.remove.result f a.rows.ok.0 c.remove.ensures.succeeds c.remove.ensures.items))
    (rows_taken a.rows.items a.out a.handled s c.self.invariant)

pub returns-in-Some-clause-row : goal.returns-in-Some-clause-row
returns-in-Some-clause-row c =
    let a = c.self.inside in
    let s = c.args.serial in
    let e = ap (λ (x : Spared Unfinished). x.items) c.self.view_is in
    let f = subst (λ (xs : List Unfinished). IsFirst (is_at s Placed) xs c.in-Some.at) (sym e) c.in-Some.ensures in
    subst (λ (xs : List Unfinished). c.remove.result ≡ first_of (is_at s Placed) xs) e (removed_is (is_at s Placed) a.rows.items c.in-Some.at a.rows.len c.remove.result f a.rows.ok.0 c.remove.ensures.succeeds)

pub returns-in-Some-clause-rest : goal.returns-in-Some-clause-rest
returns-in-Some-clause-rest c =
    let a = c.self.inside in
    let s = c.args.serial in
    let e = ap (λ (x : Spared Unfinished). x.items) c.self.view_is in
    let f = subst (λ (xs : List Unfinished). IsFirst (is_at s Placed) xs c.in-Some.at) (sym e) c.in-Some.ensures in
    removed (is_at s Placed) a.rows.items c.remove.new.self.items c.in-Some.at a.rows.len c.remove.result f a.rows.ok.0 c.remove.ensures.succeeds c.remove.ensures.items ∙ ap (without_first (is_at s Placed)) e

pub returns-in-None-clause-row : goal.returns-in-None-clause-row
returns-in-None-clause-row c = sym (first_of_none (is_at c.args.serial Placed) c.args.self.now.items c.in-None.ensures)

pub returns-in-None-clause-rest : goal.returns-in-None-clause-rest
returns-in-None-clause-rest c = sym (without_first_none (is_at c.args.serial Placed) c.args.self.now.items c.in-None.ensures)
