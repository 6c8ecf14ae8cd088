use Rattle.std.proofs.Common.{◌≡◌, ◌≤◌, ◌-◌, nat_le, true, false, length, List, None, ◌==◌, ℕ, sym, ap, subst, ◌∙◌, arith}
use Rattle.std.specs.List.Sorted.{IsNonDecreasingBy, IsPartitionPoint}
use Rattle.tcmu_types.specs.Lists.{without_first}
use Rattle.target_table.specs.declared.table.Ranked.{Ranked}
use Rattle.target_table.proofs.Places.{at-tells, serials-rise}
use Rattle.target_table.proofs.TakenOut.{Taking, Ranking, rank-facts, taken-some, taken-tells, taken-kept, taken-view, missing-view, less}
use Rattle.target_table.proofs.Added.{length-added}
use Rattle.target_table.proofs.table.Table.take.Goals as goal

pub returns-in_err-pending-clause-value : goal.returns-in_err-pending-clause-value
returns-in_err-pending-clause-value c =
    rw (← c.self.view_is)
    (c.from_residual.ensures ∙ sym c.in_err-pending.was ∙ c.vacate.ensures.found
    ∙ sym (at-tells c.self.inside.places.items c.self.inside.order.items c.args.id c.self.invariant.kept.stand c.self.invariant.kept.ranked))

pub returns-in_err-pending-clause-new : goal.returns-in_err-pending-clause-new
returns-in_err-pending-clause-new c =
    let h = at-tells c.self.inside.places.items c.self.inside.order.items c.args.id c.self.invariant.kept.stand c.self.invariant.kept.ranked
    ∙ sym c.vacate.ensures.found ∙ c.in_err-pending.was in
    rw (← c.self.view_is, c.in_err-pending.ensures.unchanged) (missing-view _ c.args.id h)

pub rank_behind-rank-requires : goal.rank_behind-rank-requires
rank_behind-rank-requires c =
    let P : List Ranked → Type 0 = λ xs. IsNonDecreasingBy (λ o. o.serial) xs in
    subst P (sym c.deref.ensures.value) (serials-rise c.self.inside.places.items c.self.inside.order.items c.self.invariant.kept.stand c.self.invariant.kept.sound.in_order)

ranking : (xs ys : List Ranked) (serial rank : ℕ) → xs ≡ ys → rank ≤ length xs → IsPartitionPoint (λ o. nat_le o.serial serial ≡ true) (λ o. nat_le o.serial serial ≡ false) xs rank → Ranking ys serial rank
ranking xs ys serial rank e w p =
    let P : List Ranked → Type 0 = λ zs. Ranking zs serial rank in
    subst P e (record { within = w; point = p })

pub overflow_sub-rank : goal.overflow_sub-rank
overflow_sub-rank c =
    (rank-facts _ _ _ _ c.args.id c.in_ok-pending.pending _ _ (record { kept = c.self.invariant.kept; found = sym c.vacate.ensures.found ∙ c.in_ok-pending.was }) (ap (λ p. p.serial) c.pending.view_is)
    (ranking _ _ _ _ c.deref.ensures.value c.rank_behind-rank.ensures.within c.rank_behind-rank.ensures.point)).0

pub remove_at-requires : goal.remove_at-requires
remove_at-requires c =
    (rank-facts _ _ _ _ c.args.id c.in_ok-pending.pending _ _ (record { kept = c.self.invariant.kept; found = sym c.vacate.ensures.found ∙ c.in_ok-pending.was }) (ap (λ p. p.serial) c.pending.view_is)
    (ranking _ _ _ _ c.deref.ensures.value c.rank_behind-rank.ensures.within c.rank_behind-rank.ensures.point)).1

pub one_less-self-inside-requires : goal.one_less-self-inside-requires
one_less-self-inside-requires c h =
    taken-some _ _ _ _ c.args.id c.in_ok-pending.pending (record { kept = c.self.invariant.kept; found = sym c.vacate.ensures.found ∙ c.in_ok-pending.was })
    (ap (λ p. p.expired) (sym c.pending.view_is) ∙ h)

taking : (c : goal.After-append) → Taking c.self.inside.places.items c.self.inside.free.items c.self.inside.order.items c.self.inside.expired c.args.id c.in_ok-pending.pending
taking c = record { kept = c.self.invariant.kept; found = sym c.vacate.ensures.found ∙ c.in_ok-pending.was }

removed : (c : goal.After-append) → c.remove_at.new.order.items ≡ without_first (λ o. o.id == c.args.id) c.self.inside.order.items
removed c =
    c.remove_at.ensures.items
    ∙ (rank-facts _ _ _ _ c.args.id c.in_ok-pending.pending _ _ (taking c) (ap (λ p. p.serial) c.pending.view_is)
    (ranking _ _ _ _ c.deref.ensures.value c.rank_behind-rank.ensures.within c.rank_behind-rank.ensures.point)).2

fewer : (c : goal.After-append) → c.one_less-self-inside.result ≡ less c.in_ok-pending.pending.expired c.self.inside.expired
fewer c = c.one_less-self-inside.ensures ∙ ap (λ p. less p.expired c.self.inside.expired) c.pending.view_is

pub invariant_of-self-2 : goal.invariant_of-self-2
invariant_of-self-2 c =
    let n = length-added c.self.inside.places.items (c.args.id - 1) None in
    let e = ap length c.in_ok-pending.ensures.emptied in
    let a = c.append.ensures.capacity in
    let b = c.remove_at.ensures.capacity in
    let d = c.self.invariant.order_room in
    let f = c.self.invariant.free_room in
    record {
      kept = rw (c.in_ok-pending.ensures.emptied, c.append.ensures.items, removed c, fewer c) (taken-kept _ _ _ _ _ _ (taking c));
      order_room = omega arith;
      free_room = omega arith;
    }

pub returns-clause-value : goal.returns-clause-value
returns-clause-value c = rw (← c.self.view_is) (sym (taken-tells _ _ _ _ _ _ (taking c)))

pub returns-clause-new : goal.returns-clause-new
returns-clause-new c =
    rw (← c.self.view_is) (rw (c.in_ok-pending.ensures.emptied, c.append.ensures.items, removed c, fewer c) (taken-view _ _ _ _ _ _ (taking c)))
