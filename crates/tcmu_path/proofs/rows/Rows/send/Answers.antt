use Rattle.std.proofs.Common.{List, refl, sym, ap, subst, ◌∙◌}
use Rattle.tcmu_types.specs.Data.{Spared}
use Rattle.tcmu_model.specs.declared.state.CommandState.TheVariants.{Waiting, Out}
use Rattle.tcmu_types.specs.Lists.{IsFirst}
use Rattle.tcmu_model.specs.Device.{Unfinished, is_at}
use Rattle.tcmu_model.specs.Events.{in_state, turned}
use Rattle.tcmu_types.proofs.Firsts.{with_first_set, with_first_none}
use Rattle.tcmu_path.specs.Tallies.{AreRows}
use Rattle.tcmu_path.specs.Room.{KeepsRoom}
use Rattle.tcmu_path.proofs.Rooms.{KeepsRoom-turned}
use Rattle.tcmu_path.proofs.RowsAfter.{rows_sent}
use Rattle.tcmu_path.proofs.rows.Rows.send.Goals as goal

pub invariant_of-self : goal.invariant_of-self
invariant_of-self c =
    let a = c.self.inside in
    let s = c.args.serial in
    let e = ap (λ (x : Spared Unfinished). x.items) c.self.view_is in
    let f = subst (λ (xs : List Unfinished). IsFirst (is_at s Waiting) xs c.in-Some.at) (sym e) c.in-Some.ensures in
    subst (λ (xs : List Unfinished). AreRows xs c.enter.new.self a.handled) (sym (with_first_set (is_at s Waiting) (in_state Out) a.rows.items c.in-Some.at c.index_mut-row.result.now c.set_state.new.self f c.index_mut-row.ensures.value c.set_state.ensures))
    (rows_sent a.rows.items a.out a.handled c.enter.new.self s c.in-Some.at c.self.invariant f c.enter.ensures.least c.enter.ensures.count)

pub returns-in-Some-clause-turned : goal.returns-in-Some-clause-turned
returns-in-Some-clause-turned c =
    let s = c.args.serial in
    let e = ap (λ (x : Spared Unfinished). x.items) c.self.view_is in
    let f = subst (λ (xs : List Unfinished). IsFirst (is_at s Waiting) xs c.in-Some.at) (sym e) c.in-Some.ensures in
    with_first_set (is_at s Waiting) (in_state Out) c.self.inside.rows.items c.in-Some.at c.index_mut-row.result.now c.set_state.new.self f c.index_mut-row.ensures.value c.set_state.ensures ∙ ap (turned s Waiting Out) e

pub returns-in_default-clause-turned : goal.returns-in_default-clause-turned
returns-in_default-clause-turned c = sym (with_first_none (is_at c.args.serial Waiting) (in_state Out) c.args.self.now.items c.in_default.ensures)

pub returns-in-Some-clause-kept : goal.returns-in-Some-clause-kept
returns-in-Some-clause-kept c = subst (λ (us : List Unfinished). KeepsRoom c.args.self.now.items us) (sym (returns-in-Some-clause-turned c)) (KeepsRoom-turned c.args.serial Waiting Out c.args.self.now.items (λ e. refl))
