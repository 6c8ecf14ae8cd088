-- Jobs in rising serial: where one stands, and what keeps the order.
use Rattle.std.proofs.Common.{◌≡◌, ℕ, ◌<◌, ◌≤◌, Bool, true, false, List, [], ◌∷◌, length, get_or, Option, Some, None, refl, sym, ap, ◌∙◌, arith, ⊎_elim, suc, zero}
use Rattle.std.specs.List.{list_any}
use Rattle.std.specs.List.Sorted.{IsNonDecreasingBy}
use Rattle.std.specs.Option.{MatchOption, is_some}
use Rattle.std.proofs.lemmas.Bool.{cases_Bool}
use Rattle.std.proofs.lemmas.List.{get_or_default}
use Rattle.tcmu_types.specs.Lists.{IsFirst, with_first, without_first, Every}
use Rattle.tcmu_types.specs.Numbers.{RisesAbove, IsRising}
use Rattle.region_model.specs.Sides.{InHand}
use Rattle.tcmu_types.proofs.Firsts.{any_at}
use Rattle.tcmu_types.proofs.Everies.{every-weaker, every-mapped}
use Rattle.ring_path.specs.Hands.{serials_in_hand}
use Rattle.tcmu_types.proofs.Rises.{rising_rest}

-- ==== numbers that rise

above-every : (n : ℕ) (xs : List ℕ) → RisesAbove n xs → Every (λ x. n < x) xs
above-every n [] h = tt
above-every n (x ∷ xs) h = (h.0, every-weaker (λ y. x < y) (λ y. n < y) xs (λ y l. omega (arith, l, h.0)) (above-every x xs h.1))

above-lower : (n m : ℕ) (xs : List ℕ) → n ≤ m → RisesAbove m xs → RisesAbove n xs
above-lower n m [] l h = tt
above-lower n m (x ∷ xs) l h = (omega (arith, l, h.0), h.1)

pub rises-head : (x : ℕ) (xs : List ℕ) → IsRising (x ∷ xs) → Every (λ y. x < y) xs
rises-head x xs h = above-every x xs h

-- ==== what keeps the order

above-taken : (n : ℕ) (p : InHand → Bool) (us : List InHand) → RisesAbove n (serials_in_hand us) → RisesAbove n (serials_in_hand (without_first p us))
above-taken n p [] h = tt
above-taken n p (u ∷ us) h =
    ⊎_elim
    (λ (e : p u ≡ true). rw e (above-lower n u.serial (serials_in_hand us) (omega (arith, h.0)) h.1))
    (λ (e : p u ≡ false). rw e (h.0, above-taken u.serial p us h.1))
    (cases_Bool (p u))

-- one is taken out
pub rises_taken : (p : InHand → Bool) (us : List InHand) → IsRising (serials_in_hand us) → IsRising (serials_in_hand (without_first p us))
rises_taken p [] h = tt
rises_taken p (u ∷ us) h =
    ⊎_elim
    (λ (e : p u ≡ true). rw e (rising_rest u.serial (serials_in_hand us) h))
    (λ (e : p u ≡ false). rw e (above-taken u.serial p us h))
    (cases_Bool (p u))

-- one is changed but for its serial
pub serials_turned : (p : InHand → Bool) (g : InHand → InHand) (us : List InHand) → ((u : InHand) → (g u).serial ≡ u.serial) → serials_in_hand (with_first p g us) ≡ serials_in_hand us
serials_turned p g [] h = refl
serials_turned p g (u ∷ us) h =
    ⊎_elim
    (λ (e : p u ≡ true). rw e (ap (λ n. n ∷ serials_in_hand us) (h u)))
    (λ (e : p u ≡ false). rw e (ap (λ xs. u.serial ∷ xs) (serials_turned p g us h)))
    (cases_Bool (p u))

-- ==== places

every-at : {X : Type 0} (P : X → Type 0) (xs : List X) (k : ℕ) (d : X) → Every P xs → k < length xs → P (get_or xs k d)
every-at P [] k d e l = absurd (omega (arith, l))
every-at P (x ∷ xs) zero d e l = e.0
every-at P (x ∷ xs) (suc k) d e l = every-at P xs k d e.1 (omega (arith, l))

behind : (u : InHand) (us : List InHand) → IsRising (serials_in_hand (u ∷ us)) → Every (λ v. u.serial < v.serial) us
behind u us h = every-mapped (λ (v : InHand). v.serial) (λ s. u.serial < s) us (rises-head u.serial (serials_in_hand us) h)

pub nondecreasing : (us : List InHand) → IsRising (serials_in_hand us) → IsNonDecreasingBy (λ u. u.serial) us
nondecreasing [] h i j d l m = absurd (omega (arith, m))
nondecreasing (u ∷ us) h zero zero d l m = omega arith
nondecreasing (u ∷ us) h zero (suc j) d l m =
    let a : u.serial < (get_or us j d).serial = every-at (λ v. u.serial < v.serial) us j d (behind u us h) (omega (arith, m)) in
    omega (arith, a)
nondecreasing (u ∷ us) h (suc i) zero d l m = absurd (omega (arith, l))
nondecreasing (u ∷ us) h (suc i) (suc j) d l m = nondecreasing us (rising_rest u.serial (serials_in_hand us) h) i j d (omega (arith, l)) (omega (arith, m))

-- what passes has the serial s
abbrev pub Only : (InHand → Bool) → ℕ → Type 0
Only p s = (u : InHand) → p u ≡ true → u.serial ≡ s

fails : (p : InHand → Bool) (s : ℕ) → Only p s → (u : InHand) → (u.serial ≡ s → ⊥) → p u ≡ false
fails p s o u h =
    ⊎_elim
    (λ (e : p u ≡ true). absurd (h (o u e)))
    (λ (e : p u ≡ false). e)
    (cases_Bool (p u))

none-above : (p : InHand → Bool) (s n : ℕ) (us : List InHand) → Only p s → s ≤ n → Every (λ v. n < v.serial) us → list_any p us ≡ false
none-above p s n [] o l h = refl
none-above p s n (u ∷ us) o l h =
    let no : p u ≡ false = fails p s o u (λ q. omega (arith, q, l, h.0)) in
    rw no (none-above p s n us o l h.1)

-- all before place n have a lesser serial, and the one there is no less and fails
pub none_there : (p : InHand → Bool) (s : ℕ) (us : List InHand) (n : ℕ) → Only p s → IsRising (serials_in_hand us)
    → ((k : ℕ) (d : InHand) → k < n → (get_or us k d).serial < s)
    → ((d : InHand) → n < length us → s ≤ (get_or us n d).serial)
    → ((d : InHand) → n < length us → p (get_or us n d) ≡ false)
    → list_any p us ≡ false
none_there p s [] n o h below above bad = refl
none_there p s (u ∷ us) zero o h below above bad =
    let z : p u ≡ false = bad u (omega arith) in
    rw z (none-above p s u.serial us o (above u (omega arith)) (behind u us h))
none_there p s (u ∷ us) (suc n) o h below above bad =
    let less : u.serial < s = below 0 u (omega arith) in
    let z : p u ≡ false = fails p s o u (λ q. omega (arith, q, less)) in
    rw z (none_there p s us n o (rising_rest u.serial (serials_in_hand us) h) (λ k d l. below (suc k) d (omega (arith, l))) (λ d l. above d (omega (arith, l))) (λ d l. bad d (omega (arith, l))))

-- all before place n have a lesser serial, and the one there passes
pub first_there : (p : InHand → Bool) (s : ℕ) (us : List InHand) (n : ℕ) (x : InHand) → Only p s
    → ((k : ℕ) (d : InHand) → k < n → (get_or us k d).serial < s)
    → n < length us → x ≡ get_or us n x → p x ≡ true → IsFirst p us n
first_there p s us n x o below l e h =
    record {
      within = l;
      passes = λ d. ap p (get_or_default us n d x l ∙ sym e) ∙ h;
      before = λ k d m. let less : (get_or us k d).serial < s = below k d m in fails p s o (get_or us k d) (λ q. omega (arith, q, less));
    }

-- no job has the serial: all before place n have a lesser one, all from there on none that is less, and the one there fails
pub none_at : (p : InHand → Bool) (s : ℕ) (us : List InHand) (n : ℕ) (x : InHand) → Only p s → IsRising (serials_in_hand us)
    → ((k : ℕ) (d : InHand) → k < n → (get_or us k d).serial < s)
    → ((k : ℕ) (d : InHand) → n ≤ k → k < length us → s ≤ (get_or us k d).serial)
    → x ≡ get_or us n x → p x ≡ false → list_any p us ≡ false
none_at p s us n x o h below above e bad =
    none_there p s us n o h below (λ d l. above n d (omega arith) l) (λ d l. ap p (get_or_default us n d x l ∙ sym e) ∙ bad)

pub none_at_end : (p : InHand → Bool) (s : ℕ) (us : List InHand) (n : ℕ) → Only p s → IsRising (serials_in_hand us)
    → ((k : ℕ) (d : InHand) → k < n → (get_or us k d).serial < s)
    → length us ≤ n → list_any p us ≡ false
none_at_end p s us n o h below l =
    none_there p s us n o h below (λ d m. absurd (omega (arith, l, m))) (λ d m. absurd (omega (arith, l, m)))

-- a place is told where one passes
pub told_some : (p : InHand → Bool) (us : List InHand) (r : Option ℕ) → MatchOption r (list_any p us ≡ false) (IsFirst p us) → is_some r ≡ list_any p us
told_some p us None h = sym h
told_some p us (Some i) h = sym (any_at p us i h)
