use Rattle.std.proofs.Common.{ap}
use Rattle.target_table.specs.Rows.{TableData}
use Rattle.target_side.proofs.Taken.{just_added}
use Rattle.target_side.proofs.commands.Commands.add.Goals as goal

pub invariant_of-self-2 : goal.invariant_of-self-2
invariant_of-self-2 c =
    just_added c.self.inside.blocks c.take_blocks.new.held c.self.inside.table.rows c.reserve.new.self.rows c.add.new.self.rows _ c.args.entrant.count (ap (λ (t : TableData). t.rows) c.add.ensures.new) c.in_ok-reserve.ensures.rows c.self.invariant c.in_ok-take_blocks.ensures.held
    c.in_ok-take_blocks.ensures.blocks
