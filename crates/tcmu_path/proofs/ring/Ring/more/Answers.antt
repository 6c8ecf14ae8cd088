use Rattle.std.proofs.Common.{◌≡◌, ℕ, ◌+◌, ◌-◌, ◌≤◌, List, length, take, drop, sym, ap, subst, ◌∙◌, arith}
use Rattle.std.proofs.lemmas.List.{length-take-le, length-drop}
use Rattle.tcmu_model.specs.RingState.{RingState, Item, front_with, commands_in, published_commands}
use Rattle.tcmu_path.proofs.RingNumbers.{more_items, more_commands}
use Rattle.tcmu_path.proofs.ring.Ring.more.Goals as goal

-- in the kept numbers
items : (n : ℕ) (r : RingState) (kept at : ℕ) (xs : List Item) → r.published ≤ r.dispatched → r.dispatched ≤ length r.laid → kept ≡ published_commands r → published_commands r ≤ n → xs ≡ r.laid → at ≡ front_with (n - kept) (take (r.dispatched - r.published) (drop r.published xs)) → r.published + at ≡ front_with n (take r.dispatched r.laid)
items n r kept at xs l m k h e v =
    let a : at ≡ front_with (n - published_commands r) (take (r.dispatched - r.published) (drop r.published r.laid)) =
    v ∙ (ap (λ c. front_with (n - c) (take (r.dispatched - r.published) (drop r.published xs))) k ∙ ap (λ ys. front_with (n - published_commands r) (take (r.dispatched - r.published) (drop r.published ys))) e) in
    ap (λ x. r.published + x) a ∙ more_items n r.published r.dispatched r.laid l m h

pub returns-clause-items : goal.returns-clause-items
returns-clause-items c =
    let a = c.self.inside in
    let r : RingState = record { size = a.size; laid = a.laid.items; cleared = a.cleared; published = a.published; dispatched = a.dispatched } in
    let h : published_commands r ≤ c.args.placed = subst (λ (x : RingState). published_commands x ≤ c.args.placed) (sym c.self.view_is) c.requires in
    let e = items c.args.placed r a.published_commands c.front_with.result.0 c.deref.result.now c.self.invariant.published c.self.invariant.dispatched c.self.invariant.published_is h c.deref.ensures.value c.front_with.ensures.value in
    subst (λ (x : RingState). x.published + c.front_with.result.0 ≡ front_with c.args.placed (take x.dispatched x.laid)) c.self.view_is e

pub returns-clause-commands : goal.returns-clause-commands
returns-clause-commands c =
    let a = c.self.inside in
    let r : RingState = record { size = a.size; laid = a.laid.items; cleared = a.cleared; published = a.published; dispatched = a.dispatched } in
    let h : published_commands r ≤ c.args.placed = subst (λ (x : RingState). published_commands x ≤ c.args.placed) (sym c.self.view_is) c.requires in
    let e : r.published + c.front_with.result.0 ≡ front_with c.args.placed (take r.dispatched r.laid) = items c.args.placed r a.published_commands c.front_with.result.0 c.deref.result.now c.self.invariant.published c.self.invariant.dispatched c.self.invariant.published_is h c.deref.ensures.value c.front_with.ensures.value in
    let f : List Item → List Item = λ (xs : List Item). take (r.dispatched - r.published) (drop r.published xs) in
    let s : f c.deref.result.now ≡ f r.laid = ap f c.deref.ensures.value in
    let len : length (f r.laid) ≡ r.dispatched - r.published = length-take-le (r.dispatched - r.published) (drop r.published r.laid) (omega (arith, length-drop r.published r.laid, c.self.invariant.dispatched)) in
    let some : c.front_with.result.0 ≤ r.dispatched - r.published = omega (arith, c.front_with.ensures.bound, ap (λ (xs : List Item). length xs) s, len) in
    let k : c.front_with.result.1 ≡ commands_in (take c.front_with.result.0 (f r.laid)) = c.front_with.ensures.commands ∙ ap (λ (xs : List Item). commands_in (take c.front_with.result.0 xs)) s in
    let m : published_commands r + commands_in (take c.front_with.result.0 (f r.laid)) ≡ commands_in (take (r.published + c.front_with.result.0) r.laid) = more_commands r.published c.front_with.result.0 r.dispatched r.laid some in
    let all : published_commands r + c.front_with.result.1 ≡ commands_in (take (front_with c.args.placed (take r.dispatched r.laid)) r.laid) = ap (λ x. published_commands r + x) k ∙ (m ∙ ap (λ x. commands_in (take x r.laid)) e) in
    subst (λ (x : RingState). published_commands x + c.front_with.result.1 ≡ commands_in (take (front_with c.args.placed (take x.dispatched x.laid)) x.laid)) c.self.view_is all
