use Rattle.std.proofs.Common.{Some, slice_get, sym, ap, ◌∙◌}
use Rattle.std.specs.Option.{option_map, option_copied}
use Rattle.std.proofs.lemmas.Option.{none-some}
use Rattle.target_table.proofs.Places.{no-due, rank-pending, is-first-due, first-not-due}
use Rattle.target_table.proofs.table.Table.next_due.Goals as goal

pub returns-in_err-id : goal.returns-in_err-id
returns-in_err-id c =
    rw (← c.self.view_is)
    (c.from_residual.ensures ∙ sym (no-due c.self.inside.places.items c.self.inside.order.items c.args.now c.self.inside.expired c.self.invariant.kept.sound.expired
    (ap (λ xs. option_map (λ o. o.id) (slice_get xs c.self.inside.expired)) (sym c.deref.ensures.value) ∙ sym c.id_at.ensures ∙ c.in_err-id.was)))

pub unreachable-requires : goal.unreachable-requires
unreachable-requires c =
    let s = rank-pending c.self.inside.places.items c.self.inside.order.items c.self.inside.expired c.in_ok-id.id c.self.invariant.kept.stand
    (ap (λ xs. option_map (λ o. o.id) (slice_get xs c.self.inside.expired)) (sym c.deref.ensures.value) ∙ sym c.id_at.ensures ∙ c.in_ok-id.was) in
    none-some _ (sym (ap option_copied c.in-None.is) ∙ rw (← c.self.view_is) at c.get.ensures ∙ s)

pub returns-then-has_passed : goal.returns-then-has_passed
returns-then-has_passed c =
    let q = sym (rw (← c.self.view_is) at c.get.ensures) ∙ ap option_copied c.in-Some.is ∙ ap Some (sym c.pending.view_is) in
    rw (← c.self.view_is)
    (sym (is-first-due c.self.inside.places.items c.self.inside.order.items c.args.now c.self.inside.expired c.in_ok-id.id _ c.self.invariant.kept.stand c.self.invariant.kept.sound.expired
    (ap (λ xs. option_map (λ o. o.id) (slice_get xs c.self.inside.expired)) (sym c.deref.ensures.value) ∙ sym c.id_at.ensures ∙ c.in_ok-id.was)
    q (sym c.has_passed.ensures ∙ c.if-has_passed.true)))

pub returns-else-has_passed : goal.returns-else-has_passed
returns-else-has_passed c =
    let q = sym (rw (← c.self.view_is) at c.get.ensures) ∙ ap option_copied c.in-Some.is ∙ ap Some (sym c.pending.view_is) in
    rw (← c.self.view_is)
    (sym (first-not-due c.self.inside.places.items c.self.inside.order.items c.args.now c.self.inside.expired c.in_ok-id.id _ c.self.invariant.kept.stand c.self.invariant.kept.sound.expired
    c.self.invariant.kept.sound.in_order
    (ap (λ xs. option_map (λ o. o.id) (slice_get xs c.self.inside.expired)) (sym c.deref.ensures.value) ∙ sym c.id_at.ensures ∙ c.in_ok-id.was)
    q (sym c.has_passed.ensures ∙ c.if-has_passed.false)))
