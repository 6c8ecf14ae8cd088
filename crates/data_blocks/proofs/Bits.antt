-- Single bits of words.
use Rattle.std.proofs.Common.{◌≡◌, ◌≢◌, ℕ, ◌+◌, ◌-◌, ◌*◌, ◌/◌, ◌%◌, ◌^◌, ◌≤◌, ◌<◌, ◌⊎◌, inl, inr, ⊎_elim, Bool, true, false, not, ◌||◌, ◌&&◌, ◌==◌, List, [], ◌∷◌, length, length-drop, replicate, take, drop, slice_index, slice_index_or, slice_set, bit_and, bit_or, refl, sym, ap, ◌∙◌, arith, suc, zero}
use Rattle.std.specs.Int.{bit_at, trailing_ones, w64}
use Rattle.std.specs.Simd.Lanes.{fold_l}
use Rattle.std.specs.List.{list_all}
use Rattle.std.proofs.lemmas.Nat.{and_le_l, and_le_r}
use Rattle.std.proofs.lemmas.Nat.Bits.{shr_and_one, bit_at_set_same, bit_at_set_other, bit_at_clear_same, bit_at_clear_other, bit_at_ones, bit_at-trailing_ones, bit_at-zero}
use Rattle.std.proofs.lemmas.List.{get_or-set_same, get_or-set_other, get_or-take, get_or-drop, length-take}
use Rattle.std.proofs.lemmas.Bool.{cases_eq, cases_lt, eqb-true, and_parts}
use Rattle.data_blocks.specs.Bitmap.{is_set}
use Rattle.std.proofs.Math.Bool.{and-true, and-false}

-- the test that the code makes
pub read : (words : List ℕ) (n : ℕ) → (bit_and (slice_index words (n / 64) / 2 ^ (n % 64)) 1 == 1) ≡ is_set words n
unfolding is_set
read words n = ap (λ b. b == 1) (shr_and_one (slice_index words (n / 64)) (n % 64))

-- an element that is there is the same whatever stands for one that is not
pub any-default : (xs : List ℕ) (i d : ℕ) → i < length xs → slice_index_or xs i d ≡ slice_index xs i
any-default [] i d h = absurd (omega arith)
any-default (x ∷ xs) zero d h = refl
any-default (x ∷ xs) (suc i) d h = any-default xs i d (omega arith)

-- two numbers in one word at one bit are one number
one_place : (m n : ℕ) → n / 64 ≡ m / 64 → n % 64 ≡ m % 64 → n ≡ m
one_place m n p q = omega arith

pub eqb-same : (m n : ℕ) → n ≡ m → (n == m) ≡ true
eqb-same m n e = grind arith

pub eqb-other : (m n : ℕ) → n ≢ m → (n == m) ≡ false
eqb-other m n e = grind arith

-- a word is written in which the bit of m alone may differ
written : (words : List ℕ) (m n w : ℕ) → m < 64 * length words →
    ((i : ℕ) → i < 64 → i ≢ m % 64 → bit_at w i ≡ bit_at (slice_index words (m / 64)) i) → n ≢ m → is_set (slice_set words (m / 64) w) n ≡ is_set words n
unfolding is_set
written words m n w h other d =
    ⊎_elim
    (λ (e : n / 64 ≡ m / 64).
    let q : n % 64 ≢ m % 64 = λ (f : n % 64 ≡ m % 64). d (one_place m n e f) in
    let a : slice_index (slice_set words (m / 64) w) (n / 64) ≡ w = rw e (get_or-set_same words (m / 64) w 0 (omega arith)) in
    let b : bit_at w (n % 64) ≡ bit_at (slice_index words (n / 64)) (n % 64) = rw e (other (n % 64) (omega arith) q) in
    ap (λ z. bit_at z (n % 64) == 1) a ∙ ap (λ z. z == 1) b)
    (λ (e : n / 64 ≢ m / 64). ap (λ z. bit_at z (n % 64) == 1) (get_or-set_other words (m / 64) (n / 64) w 0 e))
    (cases_eq (n / 64) (m / 64))

written_same : (words : List ℕ) (m w : ℕ) → m < 64 * length words → is_set (slice_set words (m / 64) w) m ≡ (bit_at w (m % 64) == 1)
unfolding is_set
written_same words m w h = ap (λ z. bit_at z (m % 64) == 1) (get_or-set_same words (m / 64) w 0 (omega arith))

pub set-tells : (words : List ℕ) (m old : ℕ) → old ≡ slice_index words (m / 64) → m < 64 * length words → (n : ℕ) →
    is_set (slice_set words (m / 64) (bit_or old (1 * 2 ^ (m % 64) % 18446744073709551616))) n ≡ ((n == m) || is_set words n)
set-tells words m old was h n =
    let w = bit_or old (1 * 2 ^ (m % 64) % 18446744073709551616) in
    ⊎_elim
    (λ (e : n ≡ m).
    let one : bit_at w (m % 64) ≡ 1 = bit_at_set_same w64 old (m % 64) (omega arith) in
    let l : is_set (slice_set words (m / 64) w) n ≡ true = rw e (written_same words m w h ∙ ap (λ z. z == 1) one) in
    l ∙ sym (ap (λ b. b || is_set words n) (eqb-same m n e)))
    (λ (d : n ≢ m).
    written words m n w h (λ i s o. bit_at_set_other w64 old (m % 64) (omega arith) i o ∙ ap (λ z. bit_at z i) was) d
    ∙ sym (ap (λ b. b || is_set words n) (eqb-other m n d)))
    (cases_eq n m)

pub clear-tells : (words : List ℕ) (m old : ℕ) → old ≡ slice_index words (m / 64) → m < 64 * length words → (n : ℕ) →
    is_set (slice_set words (m / 64) (bit_and old (18446744073709551615 - 1 * 2 ^ (m % 64) % 18446744073709551616))) n ≡ (is_set words n && not (n == m))
clear-tells words m old was h n =
    let w = bit_and old (18446744073709551615 - 1 * 2 ^ (m % 64) % 18446744073709551616) in
    ⊎_elim
    (λ (e : n ≡ m).
    let none : bit_at w (m % 64) ≡ 0 = bit_at_clear_same w64 old (m % 64) (omega arith) in
    let l : is_set (slice_set words (m / 64) w) n ≡ false = rw e (written_same words m w h ∙ ap (λ z. z == 1) none) in
    l ∙ sym (ap (λ b. is_set words n && not b) (eqb-same m n e) ∙ and-false (is_set words n)))
    (λ (d : n ≢ m).
    written words m n w h (λ i s o. bit_at_clear_other w64 old (m % 64) (omega arith) i s o ∙ ap (λ z. bit_at z i) was) d
    ∙ sym (ap (λ b. is_set words n && not b) (eqb-other m n d) ∙ and-true (is_set words n)))
    (cases_eq n m)

-- ==== words that are all ones

both-true : (b c : Bool) → b ≡ true → c ≡ true → (b && c) ≡ true
both-true b c p q = cc

one-false : (b c : Bool) → (b ≡ false) ⊎ (c ≡ false) → (b && c) ≡ false
one-false b c (inl e) = cc
one-false b c (inr e) = rw e (and-false b)

and_full : (a x : ℕ) → a ≤ 18446744073709551615 → x ≤ 18446744073709551615 →
    (bit_and a x == 18446744073709551615) ≡ ((a == 18446744073709551615) && (x == 18446744073709551615))
and_full a x p q =
    let l = and_le_l a x in
    let r = and_le_r a x in
    ⊎_elim
    (λ (e : a ≡ 18446744073709551615).
    ⊎_elim
    (λ (f : x ≡ 18446744073709551615). rw (e, f) refl)
    (λ (g : x ≢ 18446744073709551615).
    let h : bit_and a x ≢ 18446744073709551615 = λ k. g (omega arith) in
    eqb-other 18446744073709551615 (bit_and a x) h ∙ sym (one-false (a == 18446744073709551615) (x == 18446744073709551615) (inr (eqb-other 18446744073709551615 x g))))
    (cases_eq x 18446744073709551615))
    (λ (g : a ≢ 18446744073709551615).
    let h : bit_and a x ≢ 18446744073709551615 = λ k. g (omega arith) in
    eqb-other 18446744073709551615 (bit_and a x) h ∙ sym (one-false (a == 18446744073709551615) (x == 18446744073709551615) (inl (eqb-other 18446744073709551615 a g))))
    (cases_eq a 18446744073709551615)

and-assoc : (a b c : Bool) → ((a && b) && c) ≡ (a && (b && c))
and-assoc a b c = elim a as (λ v. ((v && b) && c) ≡ (v && (b && c))) [ true ↦ refl | false ↦ refl ]

pub all_full : (a : ℕ) (xs : List ℕ) → a ≤ 18446744073709551615 → ((k : ℕ) → slice_index xs k ≤ 18446744073709551615) →
    (fold_l bit_and a xs == 18446744073709551615) ≡ ((a == 18446744073709551615) && list_all (λ w. w == 18446744073709551615) xs)
all_full a [] p q = sym (and-true _)
all_full a (x ∷ xs) p q =
    let l = and_le_l a x in
    all_full (bit_and a x) xs (omega arith) (λ k. q (suc k))
    ∙ ap (λ b. b && list_all (λ w. w == 18446744073709551615) xs) (and_full a x p (q 0))
    ∙ and-assoc (a == 18446744073709551615) (x == 18446744073709551615) (list_all (λ w. w == 18446744073709551615) xs)

-- a front of a list of words is a list of words
pub front_within : (n : ℕ) (xs : List ℕ) → ((k : ℕ) → slice_index xs k ≤ 18446744073709551615) → (k : ℕ) → slice_index (take n xs) k ≤ 18446744073709551615
front_within zero xs h k = omega arith
front_within (suc n) [] h k = omega arith
front_within (suc n) (x ∷ xs) h zero = h 0
front_within (suc n) (x ∷ xs) h (suc k) = front_within n xs (λ j. h (suc j)) k

-- where all pass, each does
pub all_at : (p : ℕ → Bool) (xs : List ℕ) → list_all p xs ≡ true → (k : ℕ) → k < length xs → p (slice_index xs k) ≡ true
all_at p [] h k l = absurd (omega arith)
all_at p (x ∷ xs) h zero l = (and_parts (p x) (list_all p xs) h).0
all_at p (x ∷ xs) h (suc k) l = all_at p xs ((and_parts (p x) (list_all p xs) h).1) k (omega arith)

back : (at k : ℕ) → at ≤ k → at + (k - at) ≡ k
back at k h = omega arith

-- where the next eight words are all ones too, so are all up to there
pub more_full : (words : List ℕ) (at : ℕ) → 8 ≤ length words - at → ((k : ℕ) → k < at → slice_index words k ≡ 18446744073709551615) →
    list_all (λ w. w == 18446744073709551615) (take 8 (drop at words)) ≡ true → (k : ℕ) → k < at + 8 → slice_index words k ≡ 18446744073709551615
more_full words at long before all k l =
    ⊎_elim
    (λ (b : k < at). before k b)
    (λ (b : at ≤ k).
    let within : k - at < length (take 8 (drop at words)) = rw (length-take, length-drop) (omega arith) in
    let e : slice_index (take 8 (drop at words)) (k - at) ≡ slice_index words k =
    get_or-take 8 (drop at words) (k - at) 0 (omega arith) ∙ get_or-drop at words (k - at) 0 ∙ ap (slice_index words) (back at k b) in
    sym e ∙ eqb-true (slice_index (take 8 (drop at words)) (k - at)) 18446744073709551615 (all_at (λ w. w == 18446744073709551615) (take 8 (drop at words)) all (k - at) within))
    (cases_lt k at)

-- ==== the search

-- a bit of a word that is all ones
pub full-sets : (words : List ℕ) (n w : ℕ) → n / 64 ≡ w → slice_index words w ≡ 18446744073709551615 → is_set words n ≡ true
unfolding is_set
full-sets words n w e h =
    ap (λ z. bit_at (slice_index words z) (n % 64) == 1) e ∙ ap (λ z. bit_at z (n % 64) == 1) h ∙ ap (λ z. z == 1) (bit_at_ones 64 (n % 64) (omega arith))

-- the number of the first clear bit of the word w, t bits up
pub found-clear : (words : List ℕ) (w t : ℕ) → slice_index words w < 18446744073709551615 → t ≡ trailing_ones w64 (slice_index words w) →
    (t < 64) × (is_set words (64 * w + t) ≡ false) × ((n : ℕ) → n / 64 ≡ w → n < 64 * w + t → is_set words n ≡ true)
unfolding is_set
found-clear words w t h e =
    let x = slice_index words w in
    let f = bit_at-trailing_ones w64 x (omega arith) in
    let l : t < 64 = rw e f.0 in
    let d : (64 * w + t) / 64 ≡ w = omega arith in
    let m : (64 * w + t) % 64 ≡ t = omega arith in (
      l,
      ap (λ z. bit_at (slice_index words z) ((64 * w + t) % 64) == 1) d ∙ ap (λ z. bit_at x z == 1) m ∙ ap (λ z. bit_at x z == 1) e ∙ ap (λ z. z == 1) f.1,
      λ n q b. ap (λ z. bit_at (slice_index words z) (n % 64) == 1) q ∙ ap (λ z. z == 1) (f.2 (n % 64) (rw (← e) (omega arith))),
    )

-- no bit of a zero is set
zero-at : (count i : ℕ) → slice_index (replicate count 0) i ≡ 0
zero-at zero i = refl
zero-at (suc n) zero = refl
zero-at (suc n) (suc i) = zero-at n i

pub zero-clear : (count n : ℕ) → is_set (replicate count 0) n ≡ false
unfolding is_set
zero-clear count n = ap (λ z. bit_at z (n % 64) == 1) (zero-at count (n / 64)) ∙ ap (λ z. z == 1) (bit_at-zero (n % 64))
