-- Where items stand in a ring.
use Rattle.std.proofs.Common.{◌≡◌, ℕ, ◌+◌, ◌*◌, ◌/◌, ◌%◌, ◌≤◌, ◌<◌, ◌⊎◌, inl, inr, List, [], ◌∷◌, ◌++◌, length, take, drop, refl, sym, ap, ◌∙◌, arith, suc, zero, Some, slice_get, subst, ⊎_elim}
use Rattle.std.proofs.Math.Nat.{mul-le-mul_left}
use Rattle.std.proofs.lemmas.Bool.{cases_lt}
use Rattle.std.proofs.lemmas.List.{take_at, take-append-drop, take-take}
use Rattle.std.proofs.lemmas.List.Sums.{sum_by-take-le, sum_by-cons}
use Rattle.tcmu_model.specs.RingState.{RingState, Item, Laid, lengths, head, used, free, need, pads, with_item, commands_in, is_command}
use Rattle.tcmu_model.specs.RingState as ring
use Rattle.tcmu_model.proofs.Laying.{lengths-pads, lengths-append}
use Rattle.tcmu_model.proofs.LaidItems.{laid_with}

-- two stretches of a ring of n bytes, whole and no further than n from the first one's start to the second one's end, do not meet
pub apart_in_ring : (n p a q b : ℕ) → 0 < n → p + a ≤ q → q + b ≤ p + n → p % n + a ≤ n → q % n + b ≤ n → (p % n + a ≤ q % n) ⊎ (q % n + b ≤ p % n)
apart_in_ring n p a q b z h k v w =
    ⊎_elim
    (λ (l : p / n < q / n). let m : n * (p / n + 1) ≤ n * (q / n) = mul-le-mul_left n (omega arith) in inr (omega arith))
    (λ (l : q / n ≤ p / n). let m : n * (q / n) ≤ n * (p / n) = mul-le-mul_left n l in inl (omega arith))
    (cases_lt (p / n) (q / n))

pub get-dropped : {X : Type 0} (xs : List X) (i j : ℕ) → slice_get xs (i + j) ≡ slice_get (drop i xs) j
get-dropped xs zero j = let z : 0 + j ≡ j = omega arith in ap (slice_get xs) z
get-dropped [] (suc i) j = refl
get-dropped (x ∷ xs) (suc i) j = let z : suc i + j ≡ suc (i + j) = omega arith in ap (slice_get (x ∷ xs)) z ∙ get-dropped xs i j

-- ==== what is laid

pub lengths_to_new : (r : RingState) (it : Item) → lengths (take (length (r.laid ++ pads (ring.pad r it.len))) (laid_with r it)) ≡ lengths r.laid + ring.pad r it.len
lengths_to_new r it =
    let n : ℕ = ring.pad r it.len in
    ap lengths (take_at (r.laid ++ pads n) (it ∷ []) (length (r.laid ++ pads n)) refl) ∙ lengths-append r.laid (pads n) ∙ ap (λ k. lengths r.laid + k) (lengths-pads n)

-- an item ends within the sum of all lengths
pub ends_within : (xs : List Item) (i : ℕ) (x : Item) → slice_get xs i ≡ Some x → lengths (take i xs) + x.len ≤ lengths xs
ends_within [] i x h = absurd (cc)
ends_within (y ∷ ys) zero x h = let e : y ≡ x = cc in let k : y.len ≡ x.len = ap (λ t. t.len) e in let s : lengths (y ∷ ys) ≡ y.len + lengths ys = sum_by-cons (λ t. t.len) y ys in omega arith
ends_within (y ∷ ys) (suc i) x h =
    let k : lengths (take i ys) + x.len ≤ lengths ys = ends_within ys i x h in
    let s : lengths (y ∷ ys) ≡ y.len + lengths ys = sum_by-cons (λ t. t.len) y ys in
    let t : lengths (y ∷ take i ys) ≡ y.len + lengths (take i ys) = sum_by-cons (λ t. t.len) y (take i ys) in
    omega arith

-- what is used is what is laid and not cleared
pub used_is : (r : RingState) → lengths (take r.cleared r.laid) + used r ≡ lengths r.laid
used_is r = sym (lengths-append (take r.cleared r.laid) (drop r.cleared r.laid)) ∙ ap lengths (take-append-drop r.cleared r.laid)

-- a longer front is no shorter in bytes
pub lengths_more : (xs : List Item) (j k : ℕ) → j ≤ k → lengths (take j xs) ≤ lengths (take k xs)
lengths_more xs j k h =
    let t : take j (take k xs) ≡ take j xs = take-take j k xs h in
    let s : lengths (take j (take k xs)) ≤ lengths (take k xs) = sum_by-take-le (λ i. i.len) (take k xs) j in
    subst (λ (ys : List Item). lengths ys ≤ lengths (take k xs)) t s
