use Rattle.std.proofs.Common.{ℕ, List, refl, sym, ap, subst, ◌∙◌}
use Rattle.region_model.specs.Pending.{PendingData}
use Rattle.tcmu_types.specs.Lists.{without_first}
use Rattle.region_model.specs.Represents.{has_id}
use Rattle.region_model.specs.Sides.{PendingRow}
use Rattle.data_blocks.specs.Held.{AreHeld, Gave}
use Rattle.target_table.specs.Rows.{TableData}
use Rattle.target_side.specs.HeldRows.{HeldRows, HoldsJust}
use Rattle.target_side.proofs.Held.{are_held, just_left}
use Rattle.target_side.proofs.FoundRows.{found_row, rows_without}
use Rattle.target_side.proofs.commands.Commands.finish.Goals as goal

pub give-requires : goal.give-requires
give-requires c =
    let rows : List PendingRow = c.self.inside.table.rows in
    let f = found_row rows c.args.id c.in_ok-pending.pending (sym c.take.ensures.value ∙ c.in_ok-pending.was) in
    subst (λ (bs : List ℕ). AreHeld c.self.inside.blocks.held bs) (ap (λ (q : PendingData). q.blocks) (f.pending ∙ sym c.pending.view_is))
    (are_held c.self.inside.blocks.held (has_id c.args.id) rows f.row c.self.invariant f.there)

pub invariant_of-self-2 : goal.invariant_of-self-2
invariant_of-self-2 c =
    let rows : List PendingRow = c.self.inside.table.rows in
    let f = found_row rows c.args.id c.in_ok-pending.pending (sym c.take.ensures.value ∙ c.in_ok-pending.was) in
    let e = ap (λ (t : TableData). t.rows) c.take.ensures.new ∙ rows_without c.self.inside.table c.args.id _ refl in
    let g = subst (λ (bs : List ℕ). Gave c.self.inside.blocks bs c.give.new.self) (sym (ap (λ (q : PendingData). q.blocks) (f.pending ∙ sym c.pending.view_is))) c.give.ensures in
    subst (λ (xs : List PendingRow). HoldsJust c.give.new.self.held xs) (sym e) (just_left c.self.inside.blocks c.give.new.self (has_id c.args.id) rows f.row c.self.invariant f.there g)

pub returns-in_err-pending-clause-rows : goal.returns-in_err-pending-clause-rows
returns-in_err-pending-clause-rows c =
    let e = ap (λ (t : TableData). t.rows) c.take.ensures.new ∙ rows_without c.self.inside.table c.args.id _ refl in
    ap (λ xs. record { limit = c.self.inside.blocks.limit; rows = xs }) e ∙ ap (λ (h : HeldRows). record h { rows = without_first (has_id c.args.id) h.rows }) c.self.view_is
