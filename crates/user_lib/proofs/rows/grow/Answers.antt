use Rattle.std.proofs.Common.{refl}
use Rattle.user_lib.proofs.rows.grow.Goals as goal

pub loop-alloc-init : goal.loop-alloc-init
loop-alloc-init c = record { same = λ id. (refl, refl) }
