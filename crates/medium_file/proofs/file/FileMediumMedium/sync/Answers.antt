use Rattle.medium_file.specs.FileState.{lost_span}
use Rattle.medium_file.proofs.FileCalls.{syncs_file}
use Rattle.medium_file.proofs.file.FileMediumMedium.sync.Goals as goal

pub returns-clause-syncs : goal.returns-clause-syncs
returns-clause-syncs g c =
    rw (← c.self.view_is) (syncs_file c.self.inside.blocks c.self.inside.calls _ (lost_span c.self.inside.lost) c.self.inside.free (g.S.Store.state c.self.inside.store) (g.S.Store.state c.sync.new.self) _
    c.saturating_add-self-inside.ensures c.sync.ensures.bytes c.sync.ensures.size c.sync.ensures.calls c.sync.ensures.exact c.sync.ensures.syncs)
