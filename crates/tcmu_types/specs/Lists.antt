-- The first item of a list that passes a test: itself, the list without it, the list with it changed.
use Rattle.std.specs.Prelude.{◌≡◌, ℕ, ◌<◌, Bool, true, false, List, [], ◌∷◌, length, slice_index_or, Option, Some, None, if◌then◌else◌}

abbrev pub first_of : {X : Type 0} → (X → Bool) → List X → Option X
first_of p [] = None
first_of p (x ∷ xs) = if p x then Some x else first_of p xs

abbrev pub without_first : {X : Type 0} → (X → Bool) → List X → List X
without_first p [] = []
without_first p (x ∷ xs) = if p x then xs else x ∷ without_first p xs

abbrev pub with_first : {X : Type 0} → (X → Bool) → (X → X) → List X → List X
with_first p f [] = []
with_first p f (x ∷ xs) = if p x then f x ∷ xs else x ∷ with_first p f xs

-- i is the place of the first item that passes
pub record IsFirst {X : Type 0} (p : X → Bool) (xs : List X) (i : ℕ) : Type 0 where
  pub within : i < length xs
  pub passes : (d : X) → p (slice_index_or xs i d) ≡ true
  pub before : (k : ℕ) (d : X) → k < i → p (slice_index_or xs k d) ≡ false

-- P holds of each item
abbrev pub Every : {X : Type 0} → (X → Type 0) → List X → Type 0
Every P [] = Unit {0}
Every P (x ∷ xs) = P x × Every P xs
