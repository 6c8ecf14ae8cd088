use Rattle.tcmu_path.proofs.Placings.{apart}
use Rattle.tcmu_path.proofs.placing.place_run.Goals as goal

pub pass_item-requires-clause-apart : goal.pass_item-requires-clause-apart
pass_item-requires-clause-apart c =
    apart c.args.placed.now.items c.loop-at.placed.items c.args.items.now c.loop-at.at c.index-items-at.result c.loop-at-test.true c.index-items-at.is c.loop-at.invariant.passed c.requires.differ
