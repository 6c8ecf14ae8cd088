-- Lists of texts that are told apart.
use Rattle.std.proofs.Common.{◌≡◌, ℕ, Bool, true, false, List, [], ◌∷◌, ◌++◌, drop, refl, sym, ap, ◌∙◌}
use Rattle.std.proofs.lemmas.Bool.{false≢true}
use Rattle.tcmu_types.specs.Lists.{Every}

abbrev pub head_or : List ℕ → List (List ℕ) → List ℕ
head_or d [] = d
head_or d (x ∷ xs) = x

-- a text behind the same text is the same
pub behind_same : {A : Type 0} (p x y : List A) → p ++ x ≡ p ++ y → x ≡ y
behind_same [] x y e = e
behind_same {A} (a ∷ p) x y e = behind_same p x y (ap (λ (l : List A). drop 1 l) e)

pub apart : (p : List ℕ → Bool) (t u : List ℕ) → p t ≡ false → p u ≡ true → t ≡ u → ⊥
apart p t u h k e = false≢true (sym h ∙ ap p e ∙ k)

-- the first text fails a test
abbrev pub StartsOther : (List ℕ → Bool) → List (List ℕ) → Type 0
StartsOther p [] = Unit {0}
StartsOther p (t ∷ ts) = p t ≡ false

-- texts that pass a test, in front of one that does not
pub fronts_told : (p : List ℕ → Bool) (xs ys us vs : List (List ℕ)) → Every (λ t. p t ≡ true) xs → StartsOther p ys → Every (λ t. p t ≡ true) us → StartsOther p vs → xs ++ ys ≡ us ++ vs → (xs ≡ us) × (ys ≡ vs)
fronts_told p [] ys [] vs h k m n e = (refl, e)
fronts_told p [] [] (u ∷ us) vs h k m n e = absurd (cc)
fronts_told p [] (y ∷ ys) (u ∷ us) vs h k m n e = absurd (apart p y u k m.0 (ap (head_or []) e))
fronts_told p (x ∷ xs) ys [] [] h k m n e = absurd (cc)
fronts_told p (x ∷ xs) ys [] (v ∷ vs) h k m n e = absurd (apart p v x n h.0 (sym (ap (head_or []) e)))
fronts_told p (x ∷ xs) ys (u ∷ us) vs h k m n e =
    let rest = fronts_told p xs ys us vs h.1 k m.1 n (ap (λ (l : List (List ℕ)). drop 1 l) e) in
    (ap (λ (t : List ℕ). t ∷ xs) (ap (head_or []) e) ∙ ap (λ (l : List (List ℕ)). u ∷ l) rest.0, rest.1)

starts_other : (p : List ℕ → Bool) (ys : List (List ℕ)) → Every (λ t. p t ≡ false) ys → StartsOther p ys
starts_other p [] h = tt
starts_other p (y ∷ ys) h = h.0

-- texts that pass a test, in front of texts that do not
pub told_apart : (p : List ℕ → Bool) (xs ys us vs : List (List ℕ)) → Every (λ t. p t ≡ true) xs → Every (λ t. p t ≡ false) ys → Every (λ t. p t ≡ true) us → Every (λ t. p t ≡ false) vs → xs ++ ys ≡ us ++ vs → (xs ≡ us) × (ys ≡ vs)
told_apart p xs ys us vs h k m n e = fronts_told p xs ys us vs h (starts_other p ys k) m (starts_other p vs n) e
