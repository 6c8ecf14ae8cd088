use Rattle.block_engine.proofs.Unmapping.{unmaps_filled}
use Rattle.block_engine.proofs.unmap.unmap_one.Goals as goal

pub returns-clause-value : goal.returns-clause-value
returns-clause-value g c = unmaps_filled c.args.extent c.from.result _ _ _ c.if-extent-eq0.false c.from.ensures c.fill.ensures.fills
