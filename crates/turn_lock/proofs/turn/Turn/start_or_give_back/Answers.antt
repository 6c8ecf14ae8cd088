use Rattle.std.proofs.Common.{rules, arith, refl}
use Rattle.turn_lock.proofs.Seats.{opens}
use Rattle.turn_lock.proofs.turn.Turn.start_or_give_back.Goals as goal

pub new-requires : goal.new-requires
new-requires g c =
    let ranges = c.ranges.parts.fits in
    opens _ _ _ refl (grind rules) (grind rules) (omega (arith, c.from.ensures, c.requires)) (omega (arith, c.from.ensures))
