use Rattle.std.proofs.Common.{ap, ◌∙◌}
use Rattle.tcmu_types.specs.Numbers.{above_all}
use Rattle.region_model.specs.TargetSteps.{blocks_held}
use Rattle.target_side.specs.HeldRows.{HeldRows}
use Rattle.target_side.proofs.Held.{same_end}
use Rattle.target_side.proofs.commands.Commands.area_end.Goals as goal

pub returns-clause-value : goal.returns-clause-value
returns-clause-value c =
    c.shrink.ensures.value ∙ same_end c.self.inside.blocks.held (blocks_held c.self.inside.table.rows) c.self.invariant.numbers
    ∙ ap (λ (h : HeldRows). above_all (blocks_held h.rows)) c.self.view_is
