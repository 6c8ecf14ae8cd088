use Rattle.std.proofs.Common.{refl, sym, subst, Result, Some}
use Rattle.turn_lock.specs.declared.rule.Note.{Note}
use Rattle.turn_lock.specs.Steps.{IsNote}
use Rattle.turn_lock.proofs.turn.note_of.Goals as goal

pub returns-in-Ok : goal.returns-in-Ok
returns-in-Ok g c =
    let note : Note g.row.A.Denot g.row.T.Denot = record { ask = c.of.result; told = c.of-in-Ok.result } in
    subst (λ (r : Result g.row.T.Denot g.row.F.Denot). IsNote c.args.ask.now r (Some note)) (sym c.in-Ok.is) (note, refl, c.of.ensures, c.of-in-Ok.ensures)
