use Rattle.data_blocks.proofs.Least.{least-rising, least-is-free, least-first}
use Rattle.data_blocks.proofs.laws.least_free_law.Goals as goal

pub returns-clause-rising : goal.returns-clause-rising
returns-clause-rising c = least-rising

pub returns-clause-free : goal.returns-clause-free
returns-clause-free c = least-is-free

pub returns-clause-least : goal.returns-clause-least
returns-clause-least c = least-first
