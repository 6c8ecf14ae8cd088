use Rattle.std.proofs.Common.{sym, ap, ◌∙◌, arith}
use Rattle.data_blocks.specs.Bitmap.{first_clear}
use Rattle.data_blocks.proofs.Sets.{Taking, one-clear, first-within, taken-least, taken-kept, taken-tells}
use Rattle.data_blocks.proofs.blocks.Blocks.take_one.Goals as goal

pub unreachable-requires : goal.unreachable-requires
unreachable-requires c =
    one-clear _ _ _ _ _ c.self.invariant (rw (← c.self.view_is) at c.requires)
    (ap (λ ws. first_clear ws c.self.inside.limit) (sym c.deref.ensures.value) ∙ sym c.first_free.ensures ∙ c.in-None.is)

pub set-requires : goal.set-requires
set-requires c =
    let l = first-within c.self.inside.words.items c.self.inside.limit c.in-Some.number
    (ap (λ ws. first_clear ws c.self.inside.limit) (sym c.deref.ensures.value) ∙ sym c.first_free.ensures ∙ c.in-Some.is) in
    let w = c.self.invariant.words_within in
    omega arith

pub overflow_add-number : goal.overflow_add-number
overflow_add-number c =
    let l = first-within c.self.inside.words.items c.self.inside.limit c.in-Some.number
    (ap (λ ws. first_clear ws c.self.inside.limit) (sym c.deref.ensures.value) ∙ sym c.first_free.ensures ∙ c.in-Some.is) in
    let h = c.self.invariant.sound.limit_high in
    omega arith

taking : (c : goal.After-self-3-1) → Taking c.self.inside.words.items c.set.new.words.items c.self.inside.limit c.self.inside.held c.self.inside.spare c.self.inside.grown c.in-Some.number
taking c = record {
  kept = c.self.invariant;
  least = ap (λ ws. first_clear ws c.self.inside.limit) (sym c.deref.ensures.value) ∙ sym c.first_free.ensures ∙ c.in-Some.is;
  bits = c.set.ensures.bits;
  as_long = c.set.ensures.length;
  spare_one = rw (← c.self.view_is) at c.requires;
}

pub invariant_of-self : goal.invariant_of-self
invariant_of-self c = rw c.max-self-inside.ensures (taken-kept _ _ _ _ _ _ _ (taking c))

pub returns-clause-least : goal.returns-clause-least
returns-clause-least c = rw (← c.self.view_is) (taken-least _ _ _ _ _ _ _ (taking c))

pub returns-clause-new : goal.returns-clause-new
returns-clause-new c = rw (← c.self.view_is, c.max-self-inside.ensures) (taken-tells _ _ _ _ _ _ _ (taking c))
