use Rattle.std.proofs.Common.{subst}
use Rattle.target_side.specs.Kept.{Kept}
use Rattle.target_side.proofs.target.Target.numbers.Goals as goal

pub returns-clause-kept : goal.returns-clause-kept
returns-clause-kept c = subst Kept c.self.view_is c.self.invariant
