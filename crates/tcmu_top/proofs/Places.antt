-- One place of a list, read and written.
use Rattle.std.proofs.Common.{◌≡◌, ℕ, zero, suc, List, [], ◌∷◌, take, drop, slice_get, slice_set, Some, refl, sym, ap, ◌∙◌}

-- a list that agrees with another, in which one place is written, up to that place
pub record Agrees {X : Type 0} (xs ys : List X) (i : ℕ) (y : X) : Type 0 where
  pub before : take i ys ≡ take i xs
  pub from : drop i ys ≡ y ∷ drop (suc i) ys

pub agrees : {X : Type 0} (xs ys : List X) (i : ℕ) (x y : X) → slice_get xs i ≡ Some x → take (suc i) ys ≡ take (suc i) (slice_set xs i y) → Agrees xs ys i y
agrees [] ys i x y e h = absurd (cc)
agrees (z ∷ xs) [] zero x y e h = absurd (cc)
agrees (z ∷ xs) [] (suc i) x y e h = absurd (cc)
agrees (z ∷ xs) (w ∷ ys) zero x y e h = let same : w ≡ y = cc in record { before = refl; from = ap (λ v. v ∷ ys) same }
agrees (z ∷ xs) (w ∷ ys) (suc i) x y e h =
    let first : w ≡ z = cc in
    let rest : take (suc i) ys ≡ take (suc i) (slice_set xs i y) = cc in
    let more = agrees xs ys i x y e rest in
    record { before = ap (λ v. v ∷ take i ys) first ∙ ap (λ l. z ∷ l) more.before; from = more.from }

-- what stands there is written again
pub set_same : {X : Type 0} (xs : List X) (i : ℕ) (x : X) → slice_get xs i ≡ Some x → slice_set xs i x ≡ xs
set_same [] i x e = absurd (cc)
set_same (y ∷ xs) zero x e = let same : y ≡ x = cc in ap (λ v. v ∷ xs) (sym same)
set_same (y ∷ xs) (suc i) x e = ap (λ l. y ∷ l) (set_same xs i x e)
