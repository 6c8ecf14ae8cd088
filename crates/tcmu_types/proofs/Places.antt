-- Lists by their places.
use Rattle.std.proofs.Common.{◌∙◌, ◌≡◌, ◌⊎◌, ℕ, zero, suc, ◌+◌, ◌<◌, ◌≤◌, List, [], ◌∷◌, ◌++◌, take, drop, sym, ap, refl, length, arith, Some, None, slice_get, slice_set, slice_index, ⊎_elim, inl, inr}
use Rattle.std.specs.Option.{unwrap_or}
use Rattle.std.proofs.lemmas.Option.{unwrap_or-slice_get, slice_get-get_or}
use Rattle.std.proofs.lemmas.Bool.{cases_lt}

-- lists that agree at each place are one
pub same_list : {X : Type 0} (xs ys : List X) → ((i : ℕ) → slice_get xs i ≡ slice_get ys i) → xs ≡ ys
same_list [] [] h = refl
same_list [] (y ∷ ys) h = absurd (let e : None ≡ Some y = h 0 in cc)
same_list (x ∷ xs) [] h = absurd (let e : Some x ≡ None = h 0 in cc)
same_list (x ∷ xs) (y ∷ ys) h =
    let head : x ≡ y = let e : Some x ≡ Some y = h 0 in cc in
    let tail : xs ≡ ys = same_list xs ys (λ i. h (suc i)) in
    cc

pub get_append_left : {X : Type 0} (xs ys : List X) (i : ℕ) → i < length xs → slice_get (xs ++ ys) i ≡ slice_get xs i
get_append_left [] ys i h = absurd (omega arith)
get_append_left (x ∷ xs) ys zero h = refl
get_append_left (x ∷ xs) ys (suc i) h = get_append_left xs ys i (omega arith)

pub get_append_right : {X : Type 0} (xs ys : List X) (i j : ℕ) → i ≡ length xs + j → slice_get (xs ++ ys) i ≡ slice_get ys j
get_append_right [] ys i j h = ap (slice_get ys) (omega arith)
get_append_right (x ∷ xs) ys zero j h = absurd (omega arith)
get_append_right (x ∷ xs) ys (suc i) j h = get_append_right xs ys i j (omega arith)

pub get_take : {X : Type 0} (n : ℕ) (xs : List X) (i : ℕ) → i < n → slice_get (take n xs) i ≡ slice_get xs i
get_take zero xs i h = absurd (omega arith)
get_take (suc n) [] i h = refl
get_take (suc n) (x ∷ xs) zero h = refl
get_take (suc n) (x ∷ xs) (suc i) h = get_take n xs i (omega arith)

pub get_taken : {X : Type 0} (xs : List X) (n i : ℕ) (x : X) → slice_get (take n xs) i ≡ Some x → slice_get xs i ≡ Some x
get_taken xs zero i x e = absurd (cc)
get_taken [] (suc n) i x e = absurd (cc)
get_taken (y ∷ xs) (suc n) zero x e = e
get_taken (y ∷ xs) (suc n) (suc i) x e = get_taken xs n i x e

pub get_drop : {X : Type 0} (n : ℕ) (xs : List X) (i : ℕ) → slice_get (drop n xs) i ≡ slice_get xs (n + i)
get_drop zero xs i = ap (slice_get xs) (omega arith)
get_drop (suc n) [] i = refl
get_drop (suc n) (x ∷ xs) i =
    let e : suc n + i ≡ suc (n + i) = omega arith in
    get_drop n xs i ∙ ap (slice_get (x ∷ xs)) (sym e)

-- places that agree have one number, and the other way round within both lists
pub index_from_get : (xs ys : List ℕ) (i j : ℕ) → slice_get xs i ≡ slice_get ys j → slice_index xs i ≡ slice_index ys j
index_from_get xs ys i j e = sym (unwrap_or-slice_get xs i 0) ∙ ap (λ o. unwrap_or o 0) e ∙ unwrap_or-slice_get ys j 0

pub get_from_index : (xs ys : List ℕ) (i j : ℕ) → i < length xs → j < length ys → slice_index xs i ≡ slice_index ys j → slice_get xs i ≡ slice_get ys j
get_from_index xs ys i j h k e = slice_get-get_or xs i 0 h ∙ ap (λ (n : ℕ). Some n) e ∙ sym (slice_get-get_or ys j 0 k)

-- where a place is: before a range, in it, or behind it
pub range_cases : (at n i : ℕ) → (i < at) ⊎ (((at ≤ i) × (i < at + n)) ⊎ (at + n ≤ i))
range_cases at n i =
    ⊎_elim (λ h. inl h) (λ (h : at ≤ i). ⊎_elim (λ (k : i < at + n). inr (inl (h, k))) (λ (k : at + n ≤ i). inr (inr k)) (cases_lt i (at + n))) (cases_lt i at)

-- a place within the list has an item
pub get_within : {X : Type 0} (xs : List X) (i : ℕ) → i < length xs → (x : X) × (slice_get xs i ≡ Some x)
get_within [] i h = absurd (omega arith)
get_within (x ∷ xs) zero h = (x, refl)
get_within (x ∷ xs) (suc i) h = get_within xs i (omega arith)

-- one place is written
pub get_set : {X : Type 0} (xs : List X) (i : ℕ) (x y : X) → slice_get xs i ≡ Some x → slice_get (slice_set xs i y) i ≡ Some y
get_set [] i x y e = absurd (cc)
get_set (z ∷ xs) zero x y e = refl
get_set (z ∷ xs) (suc i) x y e = get_set xs i x y e

pub get_set_other : {X : Type 0} (xs : List X) (i j : ℕ) (y : X) → (i ≡ j → ⊥) → slice_get (slice_set xs i y) j ≡ slice_get xs j
get_set_other [] i j y ne = refl
get_set_other (z ∷ xs) zero zero y ne = absurd (ne refl)
get_set_other (z ∷ xs) zero (suc j) y ne = refl
get_set_other (z ∷ xs) (suc i) zero y ne = refl
get_set_other (z ∷ xs) (suc i) (suc j) y ne = get_set_other xs i j y (λ e. ne (ap suc e))

-- a list from a place on
pub drop_from : {X : Type 0} (xs : List X) (i : ℕ) (x : X) → slice_get xs i ≡ Some x → drop i xs ≡ x ∷ drop (suc i) xs
drop_from [] i x h = absurd (cc)
drop_from (y ∷ xs) zero x h = cc
drop_from (y ∷ xs) (suc i) x h = drop_from xs i x h

pub within : {X : Type 0} (xs : List X) (i : ℕ) (x : X) → slice_get xs i ≡ Some x → i < length xs
within [] i x h = absurd (cc)
within (y ∷ xs) zero x h = omega arith
within (y ∷ xs) (suc i) x h = omega (arith, within xs i x h)

pub get_none : {X : Type 0} (xs : List X) (i : ℕ) → slice_get xs i ≡ None → length xs ≤ i
get_none [] i h = omega arith
get_none (y ∷ xs) zero h = absurd (cc)
get_none (y ∷ xs) (suc i) h = omega (arith, get_none xs i h)
