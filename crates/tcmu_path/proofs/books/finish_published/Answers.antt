use Rattle.std.proofs.Common.{ℕ, List, ap, ◌∙◌}
use Rattle.tcmu_model.specs.RingState.{cleared_commands, published_commands}
use Rattle.tcmu_model.specs.Events.{Books, finish_all}
use Rattle.tcmu_path.specs.Changing.{books_of}
use Rattle.tcmu_path.proofs.Cleared.{finish_behind}
use Rattle.tcmu_path.proofs.books.finish_published.Goals as goal

pub returns-clause-books : goal.returns-clause-books
returns-clause-books c =
    let read_len = c.args.settings.now.flags.read_len in
    let b : Books = books_of c.args.rows.now c.args.log.now in
    c.finish_all.ensures.books ∙ (ap (λ (ss : List ℕ). finish_all read_len b ss) c.published-serials.ensures.value ∙ finish_behind read_len b (cleared_commands c.args.ring.now) (published_commands c.args.ring.now) c.args.placed.now.items c.published-serials.ensures.cleared c.requires.away)
