use Rattle.media.proofs.InMemory.{syncs_here}
use Rattle.media.proofs.memory.MemMediumMedium.sync.Goals as goal

pub returns-clause-syncs : goal.returns-clause-syncs
returns-clause-syncs c =
    syncs_here c.self.inside.blocks c.self.inside.calls _ c.self.inside.bytes.items c.args.self.now c.self.view_is c.saturating_add-self-inside.ensures
