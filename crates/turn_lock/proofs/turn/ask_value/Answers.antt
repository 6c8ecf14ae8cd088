use Rattle.std.proofs.Common.{ap, sym, ◌∙◌, ℕ, List, ◌∷◌, Some, subst}
use Rattle.atomic_table.specs.Table.{rest}
use Rattle.turn_lock.specs.declared.rule.Slot.{Slot}
use Rattle.turn_lock.specs.Turns.{slot_of}
use Rattle.turn_lock.specs.Steps.{IsUncounted}
use Rattle.turn_lock.proofs.Serving.{asked, slot_held}
use Rattle.turn_lock.proofs.turn.ask_value.Goals as goal

pub exchange-value-requires : goal.exchange-value-requires
exchange-value-requires g c =
    let h = c.requires.turn in
    let mine = slot_of (Some h.value) h.note in
    (c.requires.own.0, (mine, h.slot ∙ ap (λ (l : List (ℕ × Slot g.row.K.Denot g.row.K-Ask.Denot g.row.K-Told.Denot)). (0, mine) ∷ rest l) (sym h.slot)))

pub exchange-requires : goal.exchange-requires
exchange-requires g c = let one = c.exchange-value.ensures in (one.0 ∙ c.requires.own.0, slot_held c.args.seat.now.me c.exchange-value.new.seat.me _ one.3)

pub returns-clause-asked : goal.returns-clause-asked
returns-clause-asked g c =
    let one = c.exchange-value.ensures in
    subst (λ (n : ℕ). IsUncounted g.K.Stepped.script g.K.Stepped.history g.K.Stepped.makes_entry g.K.Stepped.fits c.exchange.new.seat.me c.args.ask.now c.ask-told.result n) (sym c.length-after.ensures)
    (asked _ _ _ _ _ _ _ _ _ _ c.requires.turn one.2 c.unwrap-value.ensures one.3 c.exchange.ensures.3 c.ask-told.ensures.script c.ask-told.ensures.told c.ask-told.ensures.refused c.note_of-note.ensures)
