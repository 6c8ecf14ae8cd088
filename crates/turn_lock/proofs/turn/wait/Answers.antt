use Rattle.std.proofs.Common.{arith, subst, sym, ◌∙◌}
use Rattle.turn_lock.specs.Turns.{Seated}
use Rattle.turn_lock.specs.Steps.{IsQueued}
use Rattle.turn_lock.proofs.Asking.{looks_or_takes}
use Rattle.turn_lock.proofs.turn.wait.Goals as goal

pub load-requires : goal.load-requires
load-requires g c =
    let i = c.loop.invariant in
    let q = subst (λ (m : Seated g.row.K.Denot g.row.K-Entry.Denot g.row.K-Ask.Denot g.row.K-Told.Denot). IsQueued c.args.mine m) (sym i.2) c.requires.queued in
    (i.0 ∙ c.requires.own.0, omega arith, looks_or_takes _ _ _ q.3.0 q.0 q.3.1 q.1 q.2)
