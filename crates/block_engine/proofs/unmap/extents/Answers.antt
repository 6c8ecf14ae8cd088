use Rattle.block_engine.proofs.Unmapping.{extents_pushed}
use Rattle.block_engine.proofs.unmap.extents.Goals as goal

pub loop-k-preserved : goal.loop-k-preserved
loop-k-preserved c =
    extents_pushed c.loop-k.k c.args.n c.be_u64_at.result c.be_u32_at.result c.loop-k.list.items _ _ c.args.sent.now
    c.loop-k-test.true c.be_u64_at.ensures c.be_u32_at.ensures c.in_ok-push.ensures.items c.loop-k.invariant
