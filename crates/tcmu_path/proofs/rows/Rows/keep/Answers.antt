use Rattle.std.proofs.Common.{List, Some, refl, sym, ap, subst, ◌∙◌}
use Rattle.tcmu_types.specs.Data.{Spared}
use Rattle.tcmu_model.specs.declared.state.CommandState.TheVariants.{Out}
use Rattle.tcmu_types.specs.Lists.{IsFirst, with_first}
use Rattle.tcmu_model.specs.Device.{Unfinished, is_at}
use Rattle.tcmu_model.specs.Events.{with_reply}
use Rattle.tcmu_types.proofs.Firsts.{first_of_at, with_first_set, with_first_none}
use Rattle.tcmu_path.specs.Tallies.{AreRows}
use Rattle.tcmu_path.specs.Room.{KeepsRoom}
use Rattle.tcmu_path.proofs.Rooms.{KeepsRoom-replied}
use Rattle.tcmu_path.proofs.RowsAfter.{rows_replied, some_there}
use Rattle.tcmu_path.proofs.rows.Rows.keep.Goals as goal

pub leave-requires-clause-some : goal.leave-requires-clause-some
leave-requires-clause-some c =
    let a = c.self.inside in
    let s = c.args.serial in
    let e = ap (λ (x : Spared Unfinished). x.items) c.self.view_is in
    let f = subst (λ (xs : List Unfinished). IsFirst (is_at s Out) xs c.in-Some.at) (sym e) c.in-Some.ensures in
    some_there Out s a.rows.items c.in-Some.at a.out refl f c.self.invariant.out_is

pub keep-requires : goal.keep-requires
keep-requires c =
    let p = is_at c.args.serial Out in
    let x = c.index_mut-row.result.now in
    let e = ap (λ (y : Spared Unfinished). y.items) c.self.view_is in
    let there = rw e at c.index_mut-row.ensures.value in
    c.requires x (first_of_at p c.args.self.now.items c.in-Some.at x c.in-Some.ensures ∙ ap Some (sym there))

pub invariant_of-self : goal.invariant_of-self
invariant_of-self c =
    let a = c.self.inside in
    let s = c.args.serial in
    let e = ap (λ (x : Spared Unfinished). x.items) c.self.view_is in
    let f = subst (λ (xs : List Unfinished). IsFirst (is_at s Out) xs c.in-Some.at) (sym e) c.in-Some.ensures in
    subst (λ (xs : List Unfinished). AreRows xs c.leave.new.self c.enter.new.self) (sym (with_first_set (is_at s Out) (with_reply c.args.reply.now) a.rows.items c.in-Some.at c.index_mut-row.result.now c.keep.new.self f c.index_mut-row.ensures.value c.keep.ensures))
    (rows_replied a.rows.items a.out a.handled c.leave.new.self c.enter.new.self s c.in-Some.at c.args.reply.now c.self.invariant f c.leave.ensures.least c.leave.ensures.count c.enter.ensures.least c.enter.ensures.count)

pub returns-in-Some-clause-items : goal.returns-in-Some-clause-items
returns-in-Some-clause-items c =
    let s = c.args.serial in
    let e = ap (λ (x : Spared Unfinished). x.items) c.self.view_is in
    let f = subst (λ (xs : List Unfinished). IsFirst (is_at s Out) xs c.in-Some.at) (sym e) c.in-Some.ensures in
    with_first_set (is_at s Out) (with_reply c.args.reply.now) c.self.inside.rows.items c.in-Some.at c.index_mut-row.result.now c.keep.new.self f c.index_mut-row.ensures.value c.keep.ensures ∙ ap (with_first (is_at s Out) (with_reply c.args.reply.now)) e

pub returns-in_default-clause-items : goal.returns-in_default-clause-items
returns-in_default-clause-items c = sym (with_first_none (is_at c.args.serial Out) (with_reply c.args.reply.now) c.args.self.now.items c.in_default.ensures)

pub returns-in-Some-clause-kept : goal.returns-in-Some-clause-kept
returns-in-Some-clause-kept c = subst (λ (us : List Unfinished). KeepsRoom c.args.self.now.items us) (sym (returns-in-Some-clause-items c)) (KeepsRoom-replied c.args.serial c.args.reply.now c.args.self.now.items)
