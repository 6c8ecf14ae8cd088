use Rattle.journal_kept.specs.Keeping.{Lengthens}
use Rattle.journal_kept.proofs.Finish.{left_of}
use Rattle.journal_kept.proofs.kept.Kept.use_up.Given as goal

abbrev pub invariant-loop : goal.invariant-loop
invariant-loop g l = Lengthens l.fn.self l.self

abbrev pub decreases-loop : goal.decreases-loop
decreases-loop g l = left_of l.self l.fn.ask
