use Rattle.std.proofs.Common.{arith, ap, sym, ◌∙◌}
use Rattle.turn_lock.specs.Passes.{PassData, TurnData}
use Rattle.turn_lock.proofs.Asking.{looks}
use Rattle.turn_lock.proofs.Seats.{joins}
use Rattle.turn_lock.proofs.turn.Turn.join.Goals as goal

pub join_seat-requires : goal.join_seat-requires
join_seat-requires g c =
    let i = c.pass.invariant in
    let j = c.other.invariant in
    let here = ap (λ (t : TurnData g.row.K-Script.Denot g.row.K-Entry.Denot). t.turn) c.self.view_is in
    let mine = ap (λ (p : PassData g.row.K-Ask.Denot g.row.K-Told.Denot). p.turn) c.pass.view_is in
    let its = ap (λ (p : PassData g.row.K-Ask.Denot g.row.K-Told.Denot). p.turn) c.other.view_is in (
      mine ∙ (c.requires.own ∙ sym here),
      its ∙ (c.requires.other ∙ sym here),
      j.3,
      omega (arith, c.self.invariant.0),
      joins _ _ _ _ i.0 i.1 i.2 j.0 j.1 j.2,
    )

pub load-requires : goal.load-requires
load-requires g c =
    let here = ap (λ (t : TurnData g.row.K-Script.Denot g.row.K-Entry.Denot). t.turn) c.self.view_is in
    let mine = ap (λ (p : PassData g.row.K-Ask.Denot g.row.K-Told.Denot). p.turn) c.pass.view_is in (
      c.join_seat.ensures.0 ∙ (mine ∙ (c.requires.own ∙ sym here)),
      omega (arith, c.self.invariant.0),
      looks _ _ _,
    )
