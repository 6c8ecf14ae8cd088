use Rattle.std.proofs.Common.{ℕ, ◌+◌, List, get_or, drop, sym, ap, ◌∙◌}
use Rattle.region_model.specs.Represents.{row_has}
use Rattle.region_model.specs.TargetSteps.{unknown_in}
use Rattle.target_side.proofs.Notes.{none_known, some_known, unknown_here, unknown_past}
use Rattle.target_side.proofs.entries.Entries.unknown.Goals as goal

pub returns-then-is_none : goal.returns-then-is_none
returns-then-is_none c =
    let rows = c.args.self.now.commands.rows in
    let xs = c.as_slice-serial-items.result.now in
    let i = c.loop-serial.serial-index in
    let none = none_known (row_has (get_or xs i 0)) rows c.with_serial.result c.with_serial.ensures c.if-is_none.ensures in
    sym (unknown_here rows xs i 0 c.loop-serial-test.true none) ∙ (ap (λ (ys : List ℕ). unknown_in rows (drop i ys)) c.as_slice-serial-items.ensures ∙ c.loop-serial.invariant)

pub loop-serial-preserved : goal.loop-serial-preserved
loop-serial-preserved c =
    let rows = c.args.self.now.commands.rows in
    let xs = c.as_slice-serial-items.result.now in
    let i = c.loop-serial.serial-index in
    let some = some_known (row_has (get_or xs i 0)) rows c.with_serial.result c.with_serial.ensures c.if-is_none.ensures in
    ap (λ (ys : List ℕ). unknown_in rows (drop (i + 1) ys)) (sym c.as_slice-serial-items.ensures)
    ∙ (unknown_past rows xs i 0 c.loop-serial-test.true some ∙ (ap (λ (ys : List ℕ). unknown_in rows (drop i ys)) c.as_slice-serial-items.ensures ∙ c.loop-serial.invariant))
