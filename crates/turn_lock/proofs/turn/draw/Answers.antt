use Rattle.std.proofs.Common.{rules, arith}
use Rattle.turn_lock.proofs.Asking.{draws}
use Rattle.turn_lock.proofs.turn.draw.Goals as goal

pub fetch_add-requires : goal.fetch_add-requires
fetch_add-requires g c = (search rules, omega arith, draws _ _ _ c.requires.idle)
