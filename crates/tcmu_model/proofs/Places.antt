-- Where the first item that passes a test stands, and that the ring's next item is there.
use Rattle.std.proofs.Common.{◌≡◌, ℕ, ◌-◌, ◌<◌, true, false, List, [], ◌∷◌, length, drop, Some, refl, arith, suc, zero, ⊎_elim, subst, eqb}
use Rattle.std.specs.List.{list_any, prefix_len}
use Rattle.std.proofs.lemmas.Bool.{cases_Bool, or_right, and_from, eq-eqb}
use Rattle.std.proofs.lemmas.List.{length-drop}
use Rattle.tcmu_model.specs.declared.state.CommandState.{CommandState}
use Rattle.tcmu_model.specs.States.{same_state}
use Rattle.tcmu_types.specs.Lists.{first_of}
use Rattle.tcmu_model.specs.RingState.{RingState, Item, is_pad, next_place}
use Rattle.tcmu_model.specs.Device.{Unfinished, has_state, is_at}
use Rattle.tcmu_model.specs.Sound.{EndsInAnItem}

-- the first in a state is there under its serial
pub first_in_state : (t : CommandState) (us : List Unfinished) (u : Unfinished) → first_of (has_state t) us ≡ Some u → list_any (is_at u.serial t) us ≡ true
first_in_state t [] u h = absurd (cc)
first_in_state t (v ∷ us) u h =
    ⊎_elim
    (λ (e : has_state t v ≡ true).
    let k : Some v ≡ Some u = rw e at h in
    let l : v ≡ u = cc in
    let m : is_at v.serial t v ≡ true = and_from (eqb v.serial v.serial) (same_state v.state t) (eq-eqb v.serial v.serial refl) e in
    let n : is_at u.serial t v ≡ true = subst (λ (w : Unfinished). is_at w.serial t v ≡ true) l m in
    rw n refl)
    (λ (e : has_state t v ≡ false).
    let k : first_of (has_state t) us ≡ Some u = rw e at h in
    or_right (is_at u.serial t v) (list_any (is_at u.serial t) us) (first_in_state t us u k))
    (cases_Bool (has_state t v))

pub ends-drop : (n : ℕ) (is : List Item) → EndsInAnItem is → EndsInAnItem (drop n is)
ends-drop zero is h = h
ends-drop (suc n) [] h = tt
ends-drop (suc zero) (i ∷ []) h = tt
ends-drop (suc (suc n)) (i ∷ []) h = tt
ends-drop (suc n) (i ∷ j ∷ is) h = ends-drop n (j ∷ is) h

-- padding does not reach the end
pub pads_within : (is : List Item) → EndsInAnItem is → 0 < length is → prefix_len is_pad is < length is
pads_within [] h l = absurd (omega (arith, l))
pads_within (i ∷ []) h l = rw h (omega arith)
pads_within (i ∷ j ∷ is) h l =
    ⊎_elim
    (λ (e : is_pad i ≡ true). let k : prefix_len is_pad (j ∷ is) < length (j ∷ is) = pads_within (j ∷ is) h (omega arith) in rw e (omega (arith, k)))
    (λ (e : is_pad i ≡ false). rw e (omega arith))
    (cases_Bool (is_pad i))

pub next_within : (r : RingState) → EndsInAnItem r.laid → r.dispatched < length r.laid → next_place r < length r.laid
next_within r h l =
    let n : length (drop r.dispatched r.laid) ≡ length r.laid - r.dispatched = length-drop r.dispatched r.laid in
    let k : prefix_len is_pad (drop r.dispatched r.laid) < length (drop r.dispatched r.laid) = pads_within (drop r.dispatched r.laid) (ends-drop r.dispatched r.laid h) (omega (arith, n, l)) in
    omega (arith, n, k)
