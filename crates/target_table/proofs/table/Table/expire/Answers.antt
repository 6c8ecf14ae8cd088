use Rattle.std.proofs.Common.{◌-◌, Some, slice_set, sym, refl, ◌∙◌, arith}
use Rattle.std.proofs.lemmas.Option.{none-some}
use Rattle.target_table.proofs.Expiring.{Expiring, waiting-found, expiring, expired-kept, expired-rows, expired-fits}
use Rattle.target_table.proofs.table.Table.expire.Goals as goal

pub unreachable-requires : goal.unreachable-requires
unreachable-requires c =
    none-some _ (sym c.in-None.is ∙ c.vacate.ensures.found ∙ waiting-found _ _ _ _ _ c.self.invariant.kept (rw (← c.self.view_is) at c.requires))

pub overflow_add-self : goal.overflow_add-self
overflow_add-self c = let f = expired-fits _ _ _ _ c.self.invariant.kept in record { fits = omega arith }

at : (c : goal.After-self-2-1) → Expiring c.self.inside.places.items (slice_set c.vacate.new.places.items (c.args.id - 1) (Some c.into_expired.result)) c.self.inside.free.items c.self.inside.order.items c.self.inside.expired c.args.id c.in-Some.pending
at c =
    rw c.in-Some.ensures.emptied
    (expiring c.self.inside.places.items c.self.inside.free.items c.self.inside.order.items c.self.inside.expired c.args.id c.in-Some.pending c.into_expired.result c.self.invariant.kept
    (rw (← c.self.view_is) at c.requires) (sym c.vacate.ensures.found ∙ c.in-Some.is) c.into_expired.ensures)

pub invariant_of-self : goal.invariant_of-self
invariant_of-self c =
    let x = at c in
    let n = x.as_long in
    let d = c.self.invariant.order_room in
    let f = c.self.invariant.free_room in
    record {
      kept = expired-kept _ _ _ _ _ _ _ x;
      order_room = omega arith;
      free_room = omega arith;
    }

pub returns : goal.returns
returns c = rw (← c.self.view_is) (rw (expired-rows _ _ _ _ _ _ _ (at c)) refl)
