use Rattle.target_side.proofs.Refused.{full_blocks, full_ring}
use Rattle.target_side.proofs.books.Books.queue_or_refuse.Goals as goal

pub returns-then-need-free-clause-submitted : goal.returns-then-need-free-clause-submitted
returns-then-need-free-clause-submitted c = full_ring c.args.region.now c.args.self.now c.args.command.now c.need-need.result c.free-free.result

pub returns-then-blocks-left-clause-submitted : goal.returns-then-blocks-left-clause-submitted
returns-then-blocks-left-clause-submitted c = full_blocks c.args.region.now c.args.self.now c.args.command.now c.blocks_for-blocks.result c.free_blocks-left.result
