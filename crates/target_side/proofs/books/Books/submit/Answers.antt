use Rattle.target_side.proofs.Refused.{busy, too_big}
use Rattle.target_side.proofs.books.Books.submit.Goals as goal

pub returns-then-self-clause-submitted : goal.returns-then-self-clause-submitted
returns-then-self-clause-submitted c = busy c.args.region.now c.args.self.now c.args.command.now

pub returns-then-have-size-clause-submitted : goal.returns-then-have-size-clause-submitted
returns-then-have-size-clause-submitted c = too_big c.args.region.now c.args.self.now c.args.command.now _ _

pub returns-then-have-limit-clause-submitted : goal.returns-then-have-limit-clause-submitted
returns-then-have-limit-clause-submitted c = too_big c.args.region.now c.args.self.now c.args.command.now _ _
