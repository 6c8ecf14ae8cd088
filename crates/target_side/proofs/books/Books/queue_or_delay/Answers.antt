use Rattle.target_side.proofs.Refused.{waits}
use Rattle.target_side.proofs.books.Books.queue_or_delay.Goals as goal

pub returns-clause-submitted : goal.returns-clause-submitted
returns-clause-submitted c = waits c.args.region.now c.args.self.now c.delay.new.self c.args.command.now c.in_ok-serial-2.serial c.in_ok-serial-2.ensures.delayed
