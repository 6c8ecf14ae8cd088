use Rattle.std.proofs.Common.{sym, ap, ◌∙◌}
use Rattle.std.specs.List.{count_by}
use Rattle.target_table.specs.Rows.{is_expired}
use Rattle.target_side.specs.HeldRows.{HeldRows}
use Rattle.target_side.proofs.Completions.{expired_count}
use Rattle.target_side.proofs.commands.Commands.expired.Goals as goal

pub returns : goal.returns
returns c =
    c.expired.ensures ∙ (sym (expired_count c.self.inside.table.expired c.self.inside.table.rows c.least-least.ensures.sound.expired) ∙ ap (λ (h : HeldRows). count_by is_expired h.rows) c.self.view_is)
