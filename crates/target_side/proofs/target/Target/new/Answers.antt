use Rattle.std.proofs.Common.{sym, subst}
use Rattle.target_side.specs.Kept.{Kept}
use Rattle.target_side.proofs.Keeps.{kept_opened}
use Rattle.target_side.proofs.target.Target.new.Goals as goal

pub invariant_of-result : goal.invariant_of-result
invariant_of-result c = subst Kept (sym c.in_ok-books.ensures) (kept_opened c.args.settings search)
