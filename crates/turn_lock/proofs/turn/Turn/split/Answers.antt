use Rattle.std.proofs.Common.{arith, ap, sym, ◌∙◌}
use Rattle.turn_lock.specs.Passes.{PassData, TurnData}
use Rattle.turn_lock.proofs.Seats.{splits}
use Rattle.turn_lock.proofs.turn.Turn.split.Goals as goal

pub split_seat-seat-requires : goal.split_seat-seat-requires
split_seat-seat-requires g c =
    let idle = c.pass.invariant in
    let here = ap (λ (t : TurnData g.row.K-Script.Denot g.row.K-Entry.Denot). t.turn) c.self.view_is in
    let mine = ap (λ (p : PassData g.row.K-Ask.Denot g.row.K-Told.Denot). p.turn) c.pass.view_is in
    let two = ap (λ (p : PassData g.row.K-Ask.Denot g.row.K-Told.Denot). p.parts) c.pass.view_is in
    (mine ∙ (c.requires.own ∙ sym here), omega (arith, c.self.invariant.0), splits _ _ (omega (arith, two, c.requires.parts)) idle.1 idle.2)
