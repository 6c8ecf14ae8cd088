use Rattle.std.proofs.Common.{◌≡◌, None, subst}
use Rattle.std.specs.Prelude.{MatchOption}
use Rattle.tcmu_types.specs.Lists.{first_of}
use Rattle.region_model.specs.TargetSteps.{is_due_at}
use Rattle.target_side.specs.HeldRows.{HeldRows, IsNextDue}
use Rattle.target_side.proofs.Rows.{next_due_match}
use Rattle.target_side.proofs.commands.Commands.next_due.Goals as goal

pub returns : goal.returns
returns c =
    subst (λ (h : HeldRows). MatchOption c.next_due.result (first_of (is_due_at c.args.now) h.rows ≡ None) (IsNextDue c.args.now h.rows)) c.self.view_is
    (next_due_match c.args.now c.self.inside.table c.next_due.result c.least-least.ensures.sound c.next_due.ensures)
