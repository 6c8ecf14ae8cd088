use Rattle.std.proofs.Common.{◌≡◌, true, List, refl, sym, ap, subst, ◌∙◌}
use Rattle.std.specs.List.{list_any}
use Rattle.tcmu_types.specs.Data.{Spared}
use Rattle.tcmu_model.specs.declared.state.CommandState.TheVariants.{Handled, Parked}
use Rattle.tcmu_types.specs.Lists.{IsFirst}
use Rattle.tcmu_model.specs.Device.{Unfinished, is_at}
use Rattle.tcmu_model.specs.Events.{in_state, turned}
use Rattle.tcmu_types.proofs.Firsts.{any_at, with_first_set, with_first_none}
use Rattle.tcmu_path.specs.Tallies.{AreRows}
use Rattle.tcmu_path.specs.Room.{KeepsRoom}
use Rattle.tcmu_path.proofs.Rooms.{KeepsRoom-turned, any-turned}
use Rattle.tcmu_path.proofs.RowsAfter.{rows_parked, some_there}
use Rattle.tcmu_path.proofs.rows.Rows.park.Goals as goal

pub leave-requires-clause-some : goal.leave-requires-clause-some
leave-requires-clause-some c =
    let a = c.self.inside in
    let s = c.args.serial in
    let e = ap (λ (x : Spared Unfinished). x.items) c.self.view_is in
    let f = subst (λ (xs : List Unfinished). IsFirst (is_at s Handled) xs c.in-Some.at) (sym e) c.in-Some.ensures in
    some_there Handled s a.rows.items c.in-Some.at a.handled refl f c.self.invariant.handled_is

pub invariant_of-self : goal.invariant_of-self
invariant_of-self c =
    let a = c.self.inside in
    let s = c.args.serial in
    let e = ap (λ (x : Spared Unfinished). x.items) c.self.view_is in
    let f = subst (λ (xs : List Unfinished). IsFirst (is_at s Handled) xs c.in-Some.at) (sym e) c.in-Some.ensures in
    subst (λ (xs : List Unfinished). AreRows xs a.out c.leave.new.self) (sym (with_first_set (is_at s Handled) (in_state Parked) a.rows.items c.in-Some.at c.index_mut-row.result.now c.set_state.new.self f c.index_mut-row.ensures.value c.set_state.ensures))
    (rows_parked a.rows.items a.out a.handled c.leave.new.self s c.in-Some.at c.self.invariant f c.leave.ensures.least c.leave.ensures.count)

pub returns-in-Some-clause-turned : goal.returns-in-Some-clause-turned
returns-in-Some-clause-turned c =
    let s = c.args.serial in
    let e = ap (λ (x : Spared Unfinished). x.items) c.self.view_is in
    let f = subst (λ (xs : List Unfinished). IsFirst (is_at s Handled) xs c.in-Some.at) (sym e) c.in-Some.ensures in
    with_first_set (is_at s Handled) (in_state Parked) c.self.inside.rows.items c.in-Some.at c.index_mut-row.result.now c.set_state.new.self f c.index_mut-row.ensures.value c.set_state.ensures ∙ ap (turned s Handled Parked) e

pub returns-in-None-clause-turned : goal.returns-in-None-clause-turned
returns-in-None-clause-turned c = sym (with_first_none (is_at c.args.serial Handled) (in_state Parked) c.args.self.now.items c.in-None.ensures)

pub returns-in-Some-clause-parked : goal.returns-in-Some-clause-parked
returns-in-Some-clause-parked c = λ h. subst (λ (us : List Unfinished). list_any (is_at c.args.serial Parked) us ≡ true) (sym (returns-in-Some-clause-turned c)) (any-turned c.args.serial Handled Parked c.args.self.now.items (any_at (is_at c.args.serial Handled) c.args.self.now.items c.in-Some.at c.in-Some.ensures))

pub returns-in-Some-clause-kept : goal.returns-in-Some-clause-kept
returns-in-Some-clause-kept c = subst (λ (us : List Unfinished). KeepsRoom c.args.self.now.items us) (sym (returns-in-Some-clause-turned c)) (KeepsRoom-turned c.args.serial Handled Parked c.args.self.now.items (λ e. refl))
