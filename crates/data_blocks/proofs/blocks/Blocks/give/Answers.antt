use Rattle.data_blocks.proofs.Several.{next-held, gave-next}
use Rattle.data_blocks.proofs.blocks.Blocks.give.Goals as goal

pub give_one-requires : goal.give_one-requires
give_one-requires c = next-held _ _ _ _ c.loop-number-test.true c.loop-number.invariant

pub loop-number-preserved : goal.loop-number-preserved
loop-number-preserved c = gave-next _ _ _ _ _ c.loop-number-test.true c.loop-number.invariant c.give_one.ensures
