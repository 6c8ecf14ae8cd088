use Rattle.media.proofs.InMemory.{writes_here}
use Rattle.media.proofs.memory.MemMediumMedium.write.Goals as goal

pub returns-clause-writes : goal.returns-clause-writes
returns-clause-writes c =
    writes_here c.args.at c.self.inside.blocks c.self.inside.calls _ c.args.bytes.now c.self.inside.bytes.items _ c.args.self.now
    c.self.view_is c.saturating_add-self-inside.ensures c.overwrite_in.ensures.value
