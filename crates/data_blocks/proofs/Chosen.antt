-- The numbers of a range that pass a test, and those that do not.
use Rattle.std.proofs.Common.{◌≡◌, ◌≢◌, ℕ, ◌+◌, ◌≤◌, ◌<◌, ⊎_elim, Bool, true, false, not, ◌||◌, ◌==◌, List, [], ◌∷◌, length, Some, None, refl, sym, ap, ◌∙◌, arith, suc, zero}
use Rattle.std.proofs.lemmas.Bool.{cases_eq, cases_Bool, false≢true}
use Rattle.tcmu_types.specs.Numbers.{RisesAbove, IsRising, above_all, is_among}
use Rattle.tcmu_model.specs.BlockLists.{free_from}
use Rattle.data_blocks.specs.Bitmap.{chosen, first_refused}
use Rattle.data_blocks.proofs.Bits.{eqb-same, eqb-other}
use Rattle.std.proofs.lemmas.Option.{none-some}

-- ==== the numbers of a list

pub or-right : (a b : Bool) → a ≡ false → (a || b) ≡ b
or-right a b e = rw e refl

pub among-here : (x : ℕ) (xs : List ℕ) (m : ℕ) → x ≡ m → is_among (x ∷ xs) m ≡ true
among-here x xs m e = rw (eqb-same m x e) refl

pub among-there : (x : ℕ) (xs : List ℕ) (m : ℕ) → x ≢ m → is_among (x ∷ xs) m ≡ is_among xs m
among-there x xs m d = or-right (x == m) (is_among xs m) (eqb-other m x d)

-- a number of a list is below the least that is above all
pub among-below : (xs : List ℕ) (m : ℕ) → is_among xs m ≡ true → m < above_all xs
among-below [] m h = cc
among-below (x ∷ xs) m h =
    ⊎_elim
    (λ (e : x ≡ m). omega arith)
    (λ (d : x ≢ m). let b = among-below xs m (sym (among-there x xs m d) ∙ h) in omega arith)
    (cases_eq x m)

pub above_all-le : (xs : List ℕ) (g : ℕ) → ((m : ℕ) → is_among xs m ≡ true → m < g) → above_all xs ≤ g
above_all-le [] g h = omega arith
above_all-le (x ∷ xs) g h =
    let a = h x (among-here x xs x refl) in
    let b = above_all-le xs g (λ m k.
    ⊎_elim
    (λ (e : x ≡ m). let l = a in omega arith)
    (λ (d : x ≢ m). h m (among-there x xs m d ∙ k))
    (cases_eq x m)) in
    omega arith

-- ==== one test

pub chosen-below : (p : ℕ → Bool) (n k m : ℕ) → is_among (chosen p n k) m ≡ true → (n ≤ m) × (m < n + k)
chosen-below p n zero m h = absurd (false≢true h)
chosen-below p n (suc k) m h =
    ⊎_elim
    (λ (t : p n ≡ true).
    let g : is_among (n ∷ chosen p (n + 1) k) m ≡ true = rw t at h in
    ⊎_elim
    (λ (e : n ≡ m). (omega arith, omega arith))
    (λ (d : n ≢ m). let i = chosen-below p (n + 1) k m (sym (among-there n (chosen p (n + 1) k) m d) ∙ g) in (omega arith, omega arith))
    (cases_eq n m))
    (λ (f : p n ≡ false). let i = chosen-below p (n + 1) k m (rw f at h) in (omega arith, omega arith))
    (cases_Bool (p n))

-- what is below the range is not chosen
not-among-above : (p : ℕ → Bool) (n k m : ℕ) → m < n → is_among (chosen p n k) m ≡ false
not-among-above p n k m h =
    ⊎_elim
    (λ (t : is_among (chosen p n k) m ≡ true). let b = chosen-below p n k m t in absurd (omega arith))
    (λ (f : is_among (chosen p n k) m ≡ false). f)
    (cases_Bool (is_among (chosen p n k) m))

pub chosen-among : (p : ℕ → Bool) (n k m : ℕ) → n ≤ m → m < n + k → is_among (chosen p n k) m ≡ p m
chosen-among p n zero m a b = absurd (omega arith)
chosen-among p n (suc k) m a b =
    ⊎_elim
    (λ (e : n ≡ m).
    ⊎_elim
    (λ (t : p n ≡ true). rw t (among-here n (chosen p (n + 1) k) m e ∙ sym t ∙ ap p e))
    (λ (f : p n ≡ false). rw f (not-among-above p (n + 1) k m (omega arith) ∙ sym f ∙ ap p e))
    (cases_Bool (p n)))
    (λ (d : n ≢ m).
    let i = chosen-among p (n + 1) k m (omega arith) (omega arith) in
    ⊎_elim
    (λ (t : p n ≡ true). rw t (among-there n (chosen p (n + 1) k) m d ∙ i))
    (λ (f : p n ≡ false). rw f i)
    (cases_Bool (p n)))
    (cases_eq n m)

-- the list rises
rises : (p : ℕ → Bool) (b n k : ℕ) → b < n → RisesAbove b (chosen p n k)
rises p b n zero h = tt
rises p b n (suc k) h =
    ⊎_elim
    (λ (t : p n ≡ true). rw t (h, rises p n (n + 1) k (omega arith)))
    (λ (f : p n ≡ false). rw f (rises p b (n + 1) k (omega arith)))
    (cases_Bool (p n))

pub chosen-rising : (p : ℕ → Bool) (n k : ℕ) → IsRising (chosen p n k)
chosen-rising p n zero = tt
chosen-rising p n (suc k) =
    ⊎_elim
    (λ (t : p n ≡ true). rw t (rises p n (n + 1) k (omega arith)))
    (λ (f : p n ≡ false). rw f (chosen-rising p (n + 1) k))
    (cases_Bool (p n))

-- the first that is refused
pub refused-tells : (p : ℕ → Bool) (n k m : ℕ) → first_refused p n k ≡ Some m → (n ≤ m) × (m < n + k) × (p m ≡ false)
refused-tells p n zero m h = absurd (none-some _ h)
refused-tells p n (suc k) m h =
    ⊎_elim
    (λ (t : p n ≡ true). let i = refused-tells p (n + 1) k m (rw t at h) in (omega arith, omega arith, i.2))
    (λ (f : p n ≡ false).
    let g : Some n ≡ Some m = rw f at h in
    let e : n ≡ m = cc in
    (omega arith, omega arith, sym (ap p e) ∙ f))
    (cases_Bool (p n))

-- where none is refused, all are chosen
pub all-chosen : (p : ℕ → Bool) (n k : ℕ) → first_refused p n k ≡ None → length (chosen p n k) ≡ k
all-chosen p n zero h = refl
all-chosen p n (suc k) h =
    ⊎_elim
    (λ (t : p n ≡ true). let i = all-chosen p (n + 1) k (rw t at h) in rw t (omega arith))
    (λ (f : p n ≡ false). let g : Some n ≡ None = rw f at h in absurd (none-some _ (sym g)))
    (cases_Bool (p n))

-- ==== two tests

pub chosen-same : (p q : ℕ → Bool) (n k : ℕ) → ((j : ℕ) → n ≤ j → j < n + k → p j ≡ q j) → chosen p n k ≡ chosen q n k
chosen-same p q n zero h = refl
chosen-same p q n (suc k) h =
    let e = h n (omega arith) (omega arith) in
    let i = chosen-same p q (n + 1) k (λ j a b. h j (omega arith) (omega arith)) in
    rw (e, i) refl

-- the free numbers are those that do not pass
pub free-chosen : (p : ℕ → Bool) (held : List ℕ) (n k : ℕ) → ((j : ℕ) → n ≤ j → j < n + k → is_among held j ≡ p j) → free_from held n k ≡ chosen (λ j. not (p j)) n k
free-chosen p held n zero h = refl
free-chosen p held n (suc k) h =
    let e = h n (omega arith) (omega arith) in
    let i = free-chosen p held (n + 1) k (λ j a b. h j (omega arith) (omega arith)) in
    ⊎_elim
    (λ (t : p n ≡ true). rw (e, i, t) refl)
    (λ (f : p n ≡ false). rw (e, i, f) refl)
    (cases_Bool (p n))

-- ==== one number more

-- q passes what p passes, and m, which p refuses
pub record Adds (p q : ℕ → Bool) (m : ℕ) : Type 0 where
  pub refused : p m ≡ false
  pub also : (j : ℕ) → q j ≡ ((j == m) || p j)

adds-here : (p q : ℕ → Bool) (m : ℕ) → Adds p q m → q m ≡ true
adds-here p q m a = a.also m ∙ ap (λ b. b || p m) (eqb-same m m refl)

adds-other : (p q : ℕ → Bool) (m j : ℕ) → Adds p q m → j ≢ m → q j ≡ p j
adds-other p q m j a d = a.also j ∙ or-right (j == m) (p j) (eqb-other m j d)

pub chosen-more : (p q : ℕ → Bool) (m n k : ℕ) → Adds p q m → n ≤ m → m < n + k → length (chosen q n k) ≡ length (chosen p n k) + 1
chosen-more p q m n zero a l h = absurd (omega arith)
chosen-more p q m n (suc k) a l h =
    ⊎_elim
    (λ (e : n ≡ m).
    let t : q n ≡ true = ap q e ∙ adds-here p q m a in
    let f : p n ≡ false = ap p e ∙ a.refused in
    let s : chosen q (n + 1) k ≡ chosen p (n + 1) k = chosen-same q p (n + 1) k (λ j x y. adds-other p q m j a (omega arith)) in
    rw (t, f, s) (omega arith))
    (λ (d : n ≢ m).
    let i = chosen-more p q m (n + 1) k a (omega arith) (omega arith) in
    let o = adds-other p q m n a d in
    ⊎_elim
    (λ (t : p n ≡ true). rw (o, t) (omega arith))
    (λ (f : p n ≡ false). rw (o, f) i)
    (cases_Bool (p n)))
    (cases_eq n m)

-- the first that p refuses is the first that is free, and the rest is free with q
pub free-rest : (p q : ℕ → Bool) (m n k : ℕ) → Adds p q m → first_refused p n k ≡ Some m →
    chosen (λ j. not (p j)) n k ≡ m ∷ chosen (λ j. not (q j)) n k
free-rest p q m n zero a h = absurd (none-some _ h)
free-rest p q m n (suc k) a h =
    ⊎_elim
    (λ (t : p n ≡ true).
    let d : n ≢ m = λ (e : n ≡ m). false≢true (sym a.refused ∙ sym (ap p e) ∙ t) in
    let o : q n ≡ true = adds-other p q m n a d ∙ t in
    rw (t, o) (free-rest p q m (n + 1) k a (rw t at h)))
    (λ (f : p n ≡ false).
    let g : Some n ≡ Some m = rw f at h in
    let e : n ≡ m = cc in
    let t : q n ≡ true = ap q e ∙ adds-here p q m a in
    let s : chosen (λ j. not (p j)) (n + 1) k ≡ chosen (λ j. not (q j)) (n + 1) k =
    chosen-same (λ j. not (p j)) (λ j. not (q j)) (n + 1) k (λ j x y. ap not (sym (adds-other p q m j a (omega arith)))) in
    rw (f, t, s) (ap (λ z. z ∷ chosen (λ j. not (q j)) (n + 1) k) e))
    (cases_Bool (p n))
