use Rattle.std.proofs.Common.{ap, ◌∙◌}
use Rattle.region_model.specs.Represents.{has_id}
use Rattle.region_model.specs.TargetSteps.{blocks_held}
use Rattle.target_table.specs.Rows.{TableData}
use Rattle.target_side.proofs.Held.{held_with_expired, just_held}
use Rattle.target_side.proofs.commands.Commands.expire.Goals as goal

pub invariant_of-self : goal.invariant_of-self
invariant_of-self c =
    just_held c.self.inside.blocks.held c.self.inside.table.rows c.expire.new.self.rows c.self.invariant
    (ap (λ (t : TableData). blocks_held t.rows) c.expire.ensures ∙ held_with_expired (has_id c.args.id) c.self.inside.table.rows)
