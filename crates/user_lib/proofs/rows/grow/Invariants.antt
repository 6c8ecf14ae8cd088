use Rattle.std.proofs.Common.{suc, ◌-◌, length}
use Rattle.user_lib.specs.ById.{ShowsSame}
use Rattle.user_lib.proofs.rows.grow.Given as goal

abbrev pub invariant-loop-alloc : goal.invariant-loop-alloc
invariant-loop-alloc l = record { same : ShowsSame l.fn.rows.items l.rows.items }

abbrev pub decreases-loop-alloc : goal.decreases-loop-alloc
decreases-loop-alloc l = suc l.id - length l.rows.items
