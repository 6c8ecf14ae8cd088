use Rattle.std.proofs.Common.{sym}
use Rattle.user_lib.proofs.Backs.{none_abandoned}
use Rattle.user_lib.proofs.books.UserBooks.abandon.Goals as goal

pub returns-then-self-clause-region : goal.returns-then-self-clause-region
returns-then-self-clause-region c = sym (none_abandoned c.args.region.now c.args.self.now.jobs c.abandon_at_once.ensures.none)
