use Rattle.std.proofs.Common.{◌≡◌, true, false, eqb, cond, Some, None, sym, ap, ◌∙◌, eq-eqb}
use Rattle.std.proofs.lemmas.Bool.{ne_eqb}
use Rattle.tcmu_types.specs.Lists.{first_of}
use Rattle.region_model.specs.Pending.{PendingData}
use Rattle.region_model.specs.Represents.{row_has}
use Rattle.target_table.specs.Rows.{id_in_row}
use Rattle.target_side.specs.HeldRows.{HeldRows, is_from}
use Rattle.target_side.proofs.Rows.{none_with, serial_found, serial_lost}
use Rattle.target_side.proofs.commands.Commands.with_serial.Goals as goal

pub returns-in_err-id : goal.returns-in_err-id
returns-in_err-id c =
    c.from_residual.ensures
    ∙ (none_with c.args.serial c.self.inside.table.rows c.least-least.ensures.sound.in_order (c.in_err-id.ensures ∙ ap (λ (h : HeldRows). id_in_row (first_of (is_from c.args.serial) h.rows)) (sym c.self.view_is))
    ∙ ap (λ (h : HeldRows). id_in_row (first_of (row_has c.args.serial) h.rows)) c.self.view_is)

pub returns-in_err-pending : goal.returns-in_err-pending
returns-in_err-pending c =
    absurd (serial_lost c.args.serial c.self.inside.table.rows c.in_ok-id.id c.least-least.ensures.sound.differ (c.in_ok-id.ensures ∙ ap (λ (h : HeldRows). id_in_row (first_of (is_from c.args.serial) h.rows)) (sym c.self.view_is)) c.in_err-pending.ensures)

pub returns-then-pending-serial : goal.returns-then-pending-serial
returns-then-pending-serial c =
    let found = serial_found c.args.serial c.self.inside.table.rows c.in_ok-id.id c.in_ok-pending.pending.now c.least-least.ensures.sound.in_order c.least-least.ensures.sound.differ
    (c.in_ok-id.ensures ∙ ap (λ (h : HeldRows). id_in_row (first_of (is_from c.args.serial) h.rows)) (sym c.self.view_is)) c.in_ok-pending.ensures in
    let same : eqb c.in_ok-pending.pending.now.serial c.args.serial ≡ true = eq-eqb _ _ (sym (ap (λ (p : PendingData). p.serial) c.pending.view_is) ∙ c.if-pending-serial.true) in
    sym (ap (λ b. cond b (Some c.in_ok-id.id) None) same) ∙ (sym found ∙ ap (λ (h : HeldRows). id_in_row (first_of (row_has c.args.serial) h.rows)) c.self.view_is)

pub returns-else-pending-serial : goal.returns-else-pending-serial
returns-else-pending-serial c =
    let found = serial_found c.args.serial c.self.inside.table.rows c.in_ok-id.id c.in_ok-pending.pending.now c.least-least.ensures.sound.in_order c.least-least.ensures.sound.differ
    (c.in_ok-id.ensures ∙ ap (λ (h : HeldRows). id_in_row (first_of (is_from c.args.serial) h.rows)) (sym c.self.view_is)) c.in_ok-pending.ensures in
    let other : eqb c.in_ok-pending.pending.now.serial c.args.serial ≡ false = ne_eqb _ _ (λ e. c.if-pending-serial.false (ap (λ (p : PendingData). p.serial) c.pending.view_is ∙ e)) in
    sym (ap (λ b. cond b (Some c.in_ok-id.id) None) other) ∙ (sym found ∙ ap (λ (h : HeldRows). id_in_row (first_of (row_has c.args.serial) h.rows)) c.self.view_is)
