use Rattle.std.proofs.Common.{ℕ, cond, not, sym, ap, ◌∙◌, arith}
use Rattle.region_model.specs.Pending.{PendingData}
use Rattle.region_model.specs.Represents.{has_id}
use Rattle.target_side.specs.Books.{to_log}
use Rattle.target_side.specs.HeldRows.{HeldRows}
use Rattle.target_side.proofs.FoundRows.{finished_count, left_most}
use Rattle.target_side.proofs.resetting.close_first.Goals as goal

pub push-requires : goal.push-requires
push-requires c =
    let left = finished_count c.args.commands.now.rows c.in-Some.id c.in-Some-finish.pending c.in-Some-finish.ensures.value in
    let one = ap (λ b. cond {A = ℕ} (not b) 1 0) (sym (ap (λ (p : PendingData). p.expired) c.pending.view_is) ∙ c.if-not-pending.true) in
    omega (arith, left, one, c.requires)

pub returns-then-not-pending-clause-room : goal.returns-then-not-pending-clause-room
returns-then-not-pending-clause-room c =
    let left = finished_count c.args.commands.now.rows c.in-Some.id c.in-Some-finish.pending c.in-Some-finish.ensures.value in
    let one = ap (λ b. cond {A = ℕ} (not b) 1 0) (sym (ap (λ (p : PendingData). p.expired) c.pending.view_is) ∙ c.if-not-pending.true) in
    let rows = ap (λ (h : HeldRows). to_log h.rows) c.finish.ensures.rows in
    omega (arith, left, one, rows, c.push.ensures.room)

pub returns-in-Some-finish-clause-room : goal.returns-in-Some-finish-clause-room
returns-in-Some-finish-clause-room c =
    let left = left_most (has_id c.in-Some.id) c.args.commands.now.rows in
    let rows = ap (λ (h : HeldRows). to_log h.rows) c.finish.ensures.rows in
    omega (arith, left, rows)

pub returns-clause-room : goal.returns-clause-room
returns-clause-room c =
    let left = left_most (has_id c.in-Some.id) c.args.commands.now.rows in
    let rows = ap (λ (h : HeldRows). to_log h.rows) c.finish.ensures.rows in
    omega (arith, left, rows)
