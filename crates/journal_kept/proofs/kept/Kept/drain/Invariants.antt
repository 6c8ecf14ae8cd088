use Rattle.tcmu_model.specs.Work.{work}
use Rattle.journal_kept.specs.Keeping.{Lengthens}
use Rattle.journal_kept.proofs.kept.Kept.drain.Given as goal

abbrev pub invariant-loop : goal.invariant-loop
invariant-loop g l = Lengthens l.fn.self l.self

abbrev pub decreases-loop : goal.decreases-loop
decreases-loop g l = work l.self.device.state
