-- The least free numbers: they rise, they are free, and no free number below one of them is left out.
use Rattle.std.proofs.Common.{◌≡◌, ◌≢◌, ℕ, ◌<◌, ⊎_elim, Bool, true, false, not, List, [], ◌∷◌, take, refl, sym, ap, ◌∙◌, subst, arith, suc, zero}
use Rattle.std.proofs.lemmas.Bool.{cases_eq, false≢true}
use Rattle.tcmu_types.specs.Numbers.{RisesAbove, IsRising, is_among}
use Rattle.tcmu_model.specs.BlockLists.{least_free}
use Rattle.data_blocks.specs.Bitmap.{chosen}
use Rattle.data_blocks.proofs.Chosen.{among-here, among-there, chosen-below, chosen-among, chosen-rising, free-chosen}
use Rattle.tcmu_types.proofs.Readings.{not_true}
use Rattle.tcmu_types.proofs.Rises.{rising_rest, among-all}

-- a number that is not held
abbrev pub is_free : List ℕ → ℕ → Bool
is_free held n = not (is_among held n)

least-chosen : (limit : ℕ) (held : List ℕ) (n : ℕ) → least_free limit held n ≡ take n (chosen (is_free held) 0 limit)
least-chosen limit held n = ap (take n) (free-chosen (is_among held) held 0 limit (λ j a b. refl))

-- ==== fronts of lists that rise

rises-take : (b n : ℕ) (xs : List ℕ) → RisesAbove b xs → RisesAbove b (take n xs)
rises-take b zero xs h = tt
rises-take b (suc n) [] h = tt
rises-take b (suc n) (x ∷ xs) h = (h.0, rises-take x n xs h.1)

rising-take : (n : ℕ) (xs : List ℕ) → IsRising xs → IsRising (take n xs)
rising-take zero xs h = tt
rising-take (suc n) [] h = tt
rising-take (suc n) (x ∷ xs) h = rises-take x n xs h

above : (b : ℕ) (xs : List ℕ) (m : ℕ) → RisesAbove b xs → is_among xs m ≡ true → b < m
above b [] m h a = absurd (false≢true a)
above b (x ∷ xs) m h a =
    ⊎_elim
    (λ (e : x ≡ m). let l = h.0 in omega arith)
    (λ (d : x ≢ m). let l = h.0 in let i = above x xs m h.1 (sym (among-there x xs m d) ∙ a) in omega arith)
    (cases_eq x m)

-- what stands before a number of the front is in the front
before : (n : ℕ) (xs : List ℕ) (m k : ℕ) → IsRising xs → is_among (take n xs) m ≡ true → k < m → is_among xs k ≡ true → is_among (take n xs) k ≡ true
before zero xs m k r h l a = absurd (false≢true h)
before (suc n) [] m k r h l a = a
before (suc n) (x ∷ xs) m k r h l a =
    ⊎_elim
    (λ (e : x ≡ k). among-here x (take n xs) k e)
    (λ (d : x ≢ k).
    let b : is_among xs k ≡ true = sym (among-there x xs k d) ∙ a in
    let u = above x xs k r b in
    let c : x ≢ m = λ (e : x ≡ m). absurd (omega arith) in
    among-there x (take n xs) k d ∙ before n xs m k (rising_rest x xs r) (sym (among-there x (take n xs) m c) ∙ h) l b)
    (cases_eq x k)

-- ==== the law

pub least-rising : (limit : ℕ) (held : List ℕ) (n : ℕ) → IsRising (least_free limit held n)
least-rising limit held n = subst IsRising (sym (least-chosen limit held n)) (rising-take n (chosen (is_free held) 0 limit) (chosen-rising (is_free held) 0 limit))

pub least-is-free : (limit : ℕ) (held : List ℕ) (n m : ℕ) → is_among (least_free limit held n) m ≡ true → (m < limit) × (is_among held m ≡ false)
least-is-free limit held n m h =
    let a = among-all n (chosen (is_free held) 0 limit) m (sym (ap (λ xs. is_among xs m) (least-chosen limit held n)) ∙ h) in
    let b = chosen-below (is_free held) 0 limit m a in
    (omega arith, not_true (is_among held m) (sym (chosen-among (is_free held) 0 limit m (omega arith) (omega arith)) ∙ a))

pub least-first : (limit : ℕ) (held : List ℕ) (n m k : ℕ) → is_among (least_free limit held n) m ≡ true → k < m → is_among held k ≡ false → is_among (least_free limit held n) k ≡ true
least-first limit held n m k h l f =
    let b = (least-is-free limit held n m h).0 in
    let a : is_among (chosen (is_free held) 0 limit) k ≡ true = chosen-among (is_free held) 0 limit k (omega arith) (omega arith) ∙ ap not f in
    ap (λ xs. is_among xs k) (least-chosen limit held n)
    ∙ before n (chosen (is_free held) 0 limit) m k (chosen-rising (is_free held) 0 limit) (sym (ap (λ xs. is_among xs m) (least-chosen limit held n)) ∙ h) l a
