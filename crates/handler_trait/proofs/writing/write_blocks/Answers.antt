use Rattle.handler_trait.proofs.OverStore.{written_base}
use Rattle.handler_trait.proofs.writing.write_blocks.Goals as goal

pub returns-clause-base : goal.returns-clause-base
returns-clause-base g c =
    written_base c.write_at-outcome.result c.args.at c.args.bytes.now c.args.free.now _ (g.S.Store.state c.args.store.now) (g.S.Store.state c.write_at-outcome.new.self)
    c.requires.start c.requires.whole (g.S.Store.sized c.args.store.now) c.requires.inside c.write_at-outcome.ensures.size c.write_at-outcome.ensures.calls c.write_at-outcome.ensures.exact c.write_at-outcome.ensures.syncs
    c.note.ensures.wrote c.note.ensures.failed c.write_at-outcome.ensures.put c.write_at-outcome.ensures.failed
