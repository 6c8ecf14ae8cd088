-- Commands in rising serial: where one stands, and what keeps the order.
use Rattle.std.proofs.Common.{◌≡◌, ℕ, ◌<◌, ◌≤◌, Bool, true, false, List, [], ◌∷◌, ◌++◌, length, get_or, Option, Some, None, refl, sym, ap, subst, ◌∙◌, arith, ⊎_elim, suc, zero}
use Rattle.std.specs.List.{list_any}
use Rattle.std.specs.List.Sorted.{IsNonDecreasingBy}
use Rattle.std.specs.Option.{MatchOption, is_some}
use Rattle.std.proofs.lemmas.Bool.{cases_Bool}
use Rattle.std.proofs.lemmas.List.{map-append, get_or_default}
use Rattle.tcmu_types.specs.Lists.{IsFirst, with_first, without_first, Every}
use Rattle.tcmu_types.specs.Numbers.{RisesAbove, IsRising}
use Rattle.tcmu_model.specs.Device.{Unfinished}
use Rattle.tcmu_types.proofs.Firsts.{any_at}
use Rattle.tcmu_types.proofs.Everies.{every-weaker, every-mapped}
use Rattle.tcmu_path.specs.Tallies.{serials_of}
use Rattle.tcmu_types.proofs.Rises.{rising_rest}

-- ==== numbers that rise

above-every : (n : ℕ) (xs : List ℕ) → RisesAbove n xs → Every (λ x. n < x) xs
above-every n [] h = tt
above-every n (x ∷ xs) h = (h.0, every-weaker (λ y. x < y) (λ y. n < y) xs (λ y l. omega (arith, l, h.0)) (above-every x xs h.1))

above-lower : (n m : ℕ) (xs : List ℕ) → n ≤ m → RisesAbove m xs → RisesAbove n xs
above-lower n m [] l h = tt
above-lower n m (x ∷ xs) l h = (omega (arith, l, h.0), h.1)

pub rises-head : (x : ℕ) (xs : List ℕ) → IsRising (x ∷ xs) → Every (λ y. x < y) xs
rises-head x xs h = above-every x xs h

above-push : (n : ℕ) (xs : List ℕ) (s : ℕ) → RisesAbove n xs → Every (λ x. x < s) xs → n < s → RisesAbove n (xs ++ s ∷ [])
above-push n [] s h e l = (l, tt)
above-push n (x ∷ xs) s h e l = (h.0, above-push x xs s h.1 e.1 e.0)

rises-push : (xs : List ℕ) (s : ℕ) → IsRising xs → Every (λ x. x < s) xs → IsRising (xs ++ s ∷ [])
rises-push [] s h e = tt
rises-push (x ∷ xs) s h e = above-push x xs s h e.1 e.0

-- ==== what keeps the order

-- one with a higher serial is appended
pub rises_pushed : (us : List Unfinished) (u : Unfinished) → IsRising (serials_of us) → Every (λ s. s < u.serial) (serials_of us) → IsRising (serials_of (us ++ u ∷ []))
rises_pushed us u h e = subst (λ (xs : List ℕ). IsRising xs) (sym (map-append (λ (v : Unfinished). v.serial) us (u ∷ []))) (rises-push (serials_of us) u.serial h e)

above-taken : (n : ℕ) (p : Unfinished → Bool) (us : List Unfinished) → RisesAbove n (serials_of us) → RisesAbove n (serials_of (without_first p us))
above-taken n p [] h = tt
above-taken n p (u ∷ us) h =
    ⊎_elim
    (λ (e : p u ≡ true). rw e (above-lower n u.serial (serials_of us) (omega (arith, h.0)) h.1))
    (λ (e : p u ≡ false). rw e (h.0, above-taken u.serial p us h.1))
    (cases_Bool (p u))

-- one is taken out
pub rises_taken : (p : Unfinished → Bool) (us : List Unfinished) → IsRising (serials_of us) → IsRising (serials_of (without_first p us))
rises_taken p [] h = tt
rises_taken p (u ∷ us) h =
    ⊎_elim
    (λ (e : p u ≡ true). rw e (rising_rest u.serial (serials_of us) h))
    (λ (e : p u ≡ false). rw e (above-taken u.serial p us h))
    (cases_Bool (p u))

-- one is changed but for its serial
pub serials_turned : (p : Unfinished → Bool) (g : Unfinished → Unfinished) (us : List Unfinished) → ((u : Unfinished) → (g u).serial ≡ u.serial) → serials_of (with_first p g us) ≡ serials_of us
serials_turned p g [] h = refl
serials_turned p g (u ∷ us) h =
    ⊎_elim
    (λ (e : p u ≡ true). rw e (ap (λ n. n ∷ serials_of us) (h u)))
    (λ (e : p u ≡ false). rw e (ap (λ xs. u.serial ∷ xs) (serials_turned p g us h)))
    (cases_Bool (p u))

-- ==== places

every-at : {X : Type 0} (P : X → Type 0) (xs : List X) (k : ℕ) (d : X) → Every P xs → k < length xs → P (get_or xs k d)
every-at P [] k d e l = absurd (omega (arith, l))
every-at P (x ∷ xs) zero d e l = e.0
every-at P (x ∷ xs) (suc k) d e l = every-at P xs k d e.1 (omega (arith, l))

behind : (u : Unfinished) (us : List Unfinished) → IsRising (serials_of (u ∷ us)) → Every (λ v. u.serial < v.serial) us
behind u us h = every-mapped (λ (v : Unfinished). v.serial) (λ s. u.serial < s) us (rises-head u.serial (serials_of us) h)

pub nondecreasing : (us : List Unfinished) → IsRising (serials_of us) → IsNonDecreasingBy (λ u. u.serial) us
nondecreasing [] h i j d l m = absurd (omega (arith, m))
nondecreasing (u ∷ us) h zero zero d l m = omega arith
nondecreasing (u ∷ us) h zero (suc j) d l m =
    let a : u.serial < (get_or us j d).serial = every-at (λ v. u.serial < v.serial) us j d (behind u us h) (omega (arith, m)) in
    omega (arith, a)
nondecreasing (u ∷ us) h (suc i) zero d l m = absurd (omega (arith, l))
nondecreasing (u ∷ us) h (suc i) (suc j) d l m = nondecreasing us (rising_rest u.serial (serials_of us) h) i j d (omega (arith, l)) (omega (arith, m))

-- what passes has the serial s
abbrev pub Only : (Unfinished → Bool) → ℕ → Type 0
Only p s = (u : Unfinished) → p u ≡ true → u.serial ≡ s

fails : (p : Unfinished → Bool) (s : ℕ) → Only p s → (u : Unfinished) → (u.serial ≡ s → ⊥) → p u ≡ false
fails p s o u h =
    ⊎_elim
    (λ (e : p u ≡ true). absurd (h (o u e)))
    (λ (e : p u ≡ false). e)
    (cases_Bool (p u))

none-above : (p : Unfinished → Bool) (s n : ℕ) (us : List Unfinished) → Only p s → s ≤ n → Every (λ v. n < v.serial) us → list_any p us ≡ false
none-above p s n [] o l h = refl
none-above p s n (u ∷ us) o l h =
    let no : p u ≡ false = fails p s o u (λ q. omega (arith, q, l, h.0)) in
    rw no (none-above p s n us o l h.1)

-- all before place n have a lesser serial, and the one there is no less and fails
pub none_there : (p : Unfinished → Bool) (s : ℕ) (us : List Unfinished) (n : ℕ) → Only p s → IsRising (serials_of us)
    → ((k : ℕ) (d : Unfinished) → k < n → (get_or us k d).serial < s)
    → ((d : Unfinished) → n < length us → s ≤ (get_or us n d).serial)
    → ((d : Unfinished) → n < length us → p (get_or us n d) ≡ false)
    → list_any p us ≡ false
none_there p s [] n o h below above bad = refl
none_there p s (u ∷ us) zero o h below above bad =
    let z : p u ≡ false = bad u (omega arith) in
    rw z (none-above p s u.serial us o (above u (omega arith)) (behind u us h))
none_there p s (u ∷ us) (suc n) o h below above bad =
    let less : u.serial < s = below 0 u (omega arith) in
    let z : p u ≡ false = fails p s o u (λ q. omega (arith, q, less)) in
    rw z (none_there p s us n o (rising_rest u.serial (serials_of us) h) (λ k d l. below (suc k) d (omega (arith, l))) (λ d l. above d (omega (arith, l))) (λ d l. bad d (omega (arith, l))))

-- all before place n have a lesser serial, and the one there passes
pub first_there : (p : Unfinished → Bool) (s : ℕ) (us : List Unfinished) (n : ℕ) (x : Unfinished) → Only p s
    → ((k : ℕ) (d : Unfinished) → k < n → (get_or us k d).serial < s)
    → n < length us → x ≡ get_or us n x → p x ≡ true → IsFirst p us n
first_there p s us n x o below l e h =
    record {
      within = l;
      passes = λ d. ap p (get_or_default us n d x l ∙ sym e) ∙ h;
      before = λ k d m. let less : (get_or us k d).serial < s = below k d m in fails p s o (get_or us k d) (λ q. omega (arith, q, less));
    }

-- no command has the serial: all before place n have a lesser one, all from there on none that is less, and the one there fails
pub none_at : (p : Unfinished → Bool) (s : ℕ) (us : List Unfinished) (n : ℕ) (x : Unfinished) → Only p s → IsRising (serials_of us)
    → ((k : ℕ) (d : Unfinished) → k < n → (get_or us k d).serial < s)
    → ((k : ℕ) (d : Unfinished) → n ≤ k → k < length us → s ≤ (get_or us k d).serial)
    → x ≡ get_or us n x → p x ≡ false → list_any p us ≡ false
none_at p s us n x o h below above e bad =
    none_there p s us n o h below (λ d l. above n d (omega arith) l) (λ d l. ap p (get_or_default us n d x l ∙ sym e) ∙ bad)

pub none_at_end : (p : Unfinished → Bool) (s : ℕ) (us : List Unfinished) (n : ℕ) → Only p s → IsRising (serials_of us)
    → ((k : ℕ) (d : Unfinished) → k < n → (get_or us k d).serial < s)
    → length us ≤ n → list_any p us ≡ false
none_at_end p s us n o h below l =
    none_there p s us n o h below (λ d m. absurd (omega (arith, l, m))) (λ d m. absurd (omega (arith, l, m)))

-- a place is told where one passes
pub told_some : (p : Unfinished → Bool) (us : List Unfinished) (r : Option ℕ) → MatchOption r (list_any p us ≡ false) (IsFirst p us) → is_some r ≡ list_any p us
told_some p us None h = sym h
told_some p us (Some i) h = sym (any_at p us i h)
