use Rattle.std.proofs.Common.{◌≡◌, ℕ, ◌+◌, ◌%◌, ◌≤◌, List, [], ◌∷◌, ◌++◌, subst, sym, ap, ◌∙◌}
use Rattle.tcmu_model.specs.RingState.{RingState, Item, need, free, pads, pad}
use Rattle.tcmu_path.specs.Numbers.{HasNumbers}
use Rattle.tcmu_path.proofs.RingNumbers.{HasNumbers-lay}
use Rattle.tcmu_path.proofs.ring.Ring.lay.Goals as goal

pub invariant_of-self-3 : goal.invariant_of-self-3
invariant_of-self-3 c =
    let a = c.self.inside in
    let ring : List Item → RingState = λ (xs : List Item). record { size = a.size; laid = xs; cleared = a.cleared; published = a.published; dispatched = a.dispatched } in
    let e = c.reserve.ensures.items in
    let p = c.pad-pad.result in
    let len : c.item.inside.len ≡ c.args.item.len = ap (λ (i : Item). i.len) c.item.view_is in
    let padding : p ≡ pad (ring a.laid.items) c.item.inside.len = subst (λ (xs : List Item). p ≡ pad (ring xs) c.item.inside.len) e c.pad-pad.ensures.value in
    let all : HasNumbers (ring c.append.new.laid.items) ((a.head + (p + c.args.item.len)) % a.size) (a.used + (p + c.args.item.len)) a.cleared_commands a.published_commands =
    HasNumbers-lay (ring a.laid.items) a.head a.used a.cleared_commands a.published_commands p c.args.item c.append.new.laid.items c.self.invariant
    (subst (λ (n : ℕ). p ≡ pad (ring a.laid.items) n) len padding)
    (subst (λ (r : RingState). need r c.args.item.len ≤ free r) (sym c.self.view_is) c.requires.fits)
    (c.append.ensures ∙ ap (λ (xs : List Item). xs ++ pads p ++ c.args.item ∷ []) e) in
    subst (λ (n : ℕ). HasNumbers (ring c.append.new.laid.items) ((a.head + (p + n)) % a.size) (a.used + (p + n)) a.cleared_commands a.published_commands) (sym len) all
