use Rattle.std.proofs.Common.{◌≡◌, ℕ, ◌<◌, None}
use Rattle.journal_kept.specs.Asked.{next_line}
use Rattle.journal_kept.specs.Keeping.{Lengthens}
use Rattle.journal_kept.proofs.kept.Kept.finish.Given as goal

abbrev pub invariant-loop-at : goal.invariant-loop-at
invariant-loop-at g l = Lengthens l.fn.self l.self × ((k : ℕ) → k < l.at → next_line l.self.plan.script l.self.journal k ≡ None)
