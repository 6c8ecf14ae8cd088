use Rattle.std.proofs.Common.{ap, sym, ◌∙◌, ◌≡◌}
use Rattle.turn_lock.specs.Passes.{PassData, TurnData}
use Rattle.turn_lock.proofs.Seats.{IsEnd, closes, closes_with, is_some}
use Rattle.turn_lock.proofs.turn.Turn.close.Given.{Over}
use Rattle.turn_lock.proofs.turn.Turn.close.Goals as goal

pub unwrap-requires : goal.unwrap-requires
unwrap-requires g c =
    let idle = c.pass.invariant in
    let all = ap (λ (p : PassData g.row.K-Ask.Denot g.row.K-Told.Denot). p.parts) c.pass.view_is ∙ (c.requires.all ∙ sym (ap (λ (t : TurnData g.row.K-Script.Denot g.row.K-Entry.Denot). t.parts) c.self.view_is)) in
    let h = closes _ _ _ _ c.close_with-closed.ensures.values.2 all idle.0 idle.2 c.take-value.result c.take-value.ensures.value in
    is_some _ h.0 h.1

-- what is known at the return, of the fields
ends : (g : Over) (c : goal.After-unwrap g)
    → (g.K.Stepped.script c.unwrap.result ≡ g.K.Stepped.script c.self.inside.table.shared.key.value.value)
    × IsEnd g.K.Stepped.script g.K.Stepped.history g.K.Stepped.makes_entry g.K.Stepped.fits c.self.inside.table.shared.key.value.value (g.K.Stepped.history c.unwrap.result) c.pass.inside.seat.me.0
ends g c =
    let idle = c.pass.invariant in
    let all = ap (λ (p : PassData g.row.K-Ask.Denot g.row.K-Told.Denot). p.parts) c.pass.view_is ∙ (c.requires.all ∙ sym (ap (λ (t : TurnData g.row.K-Script.Denot g.row.K-Entry.Denot). t.parts) c.self.view_is)) in
    let h = closes _ _ _ _ c.close_with-closed.ensures.values.2 all idle.0 idle.2 c.take-value.result c.take-value.ensures.value in
    closes_with _ _ _ h c.unwrap.ensures

pub returns-clause-script : goal.returns-clause-script
returns-clause-script g c = rw (← c.self.view_is) (ends g c).0

pub returns-clause-begun : goal.returns-clause-begun
returns-clause-begun g c = rw (← c.self.view_is) (ends g c).1.begun

pub returns-clause-longer : goal.returns-clause-longer
returns-clause-longer g c = rw (← c.pass.view_is) (ends g c).1.longer

pub returns-clause-fitting : goal.returns-clause-fitting
returns-clause-fitting g c = rw (← c.self.view_is, ← c.pass.view_is) (ends g c).1.fitting

pub returns-clause-each_once : goal.returns-clause-each_once
returns-clause-each_once g c = rw (← c.self.view_is, ← c.pass.view_is) (ends g c).1.each_once
