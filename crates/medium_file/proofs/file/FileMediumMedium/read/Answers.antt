use Rattle.medium_file.specs.FileState.{lost_span}
use Rattle.medium_file.proofs.FileCalls.{reads_file, on_ok}
use Rattle.medium_file.proofs.file.FileMediumMedium.read.Goals as goal

pub returns-clause-reads : goal.returns-clause-reads
returns-clause-reads g c =
    let here = c.self.invariant in
    rw (← c.self.view_is) (reads_file c.args.at c.self.inside.blocks c.self.inside.calls _ (lost_span c.self.inside.lost) c.self.inside.free (g.S.Store.state c.self.inside.store) (g.S.Store.state c.read_at.new.self)
    c.read_at.new.into _ c.saturating_add-self-inside.ensures (g.S.Store.sized c.self.inside.store) (record { ordered = here.ordered; ends = here.inside })
    c.read_at.ensures.bytes c.read_at.ensures.size c.read_at.ensures.calls c.read_at.ensures.exact c.read_at.ensures.syncs (on_ok c.read_at.result _ c.read_at.ensures.shown))
