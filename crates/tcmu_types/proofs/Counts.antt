-- Sums and counts over a list whose first item that passes a test is changed or taken out.
use Rattle.std.proofs.Common.{Bool, List, Some, [], ap, arith, cond, false, map, refl, true, ℕ, ⊎_elim, ◌&&◌, ◌+◌, ◌∷◌, ◌≡◌, ◌≤◌}
use Rattle.std.specs.List.{list_any, sum_by}
use Rattle.std.proofs.lemmas.List.Sums.{sum_by-cons}
use Rattle.std.proofs.lemmas.Bool.{cases_Bool, false≢true}
use Rattle.tcmu_types.specs.Lists.{first_of, with_first, without_first}

-- a test that never, or always, passes beside another
pub counts_none : (b : Bool) → cond {A = ℕ} (b && false) 1 0 ≡ 0
counts_none true = refl
counts_none false = refl

pub counts_one : (b : Bool) → cond {A = ℕ} (b && true) 1 0 ≡ cond b 1 0
counts_one true = refl
counts_one false = refl

-- every item that passes weighs k less after the change
pub sum-with_first_less : {X : Type 0} (p : X → Bool) (g : X → X) (f : X → ℕ) (k : ℕ) (xs : List X) → ((x : X) → p x ≡ true → f (g x) + k ≡ f x) → list_any p xs ≡ true → sum_by f (with_first p g xs) + k ≡ sum_by f xs
sum-with_first_less p g f k [] h a = absurd (false≢true a)
sum-with_first_less p g f k (x ∷ xs) h a =
    ⊎_elim
    (λ (e : p x ≡ true). rw e (omega (arith, sum_by-cons f (g x) xs, sum_by-cons f x xs, h x e)))
    (λ (e : p x ≡ false). rw e (omega (arith, sum_by-cons f x (with_first p g xs), sum_by-cons f x xs, sum-with_first_less p g f k xs h (rw e at a))))
    (cases_Bool (p x))

-- every item that passes weighs the same after the change
pub sum-with_first_same : {X : Type 0} (p : X → Bool) (g : X → X) (f : X → ℕ) (xs : List X) → ((x : X) → p x ≡ true → f (g x) ≡ f x) → sum_by f (with_first p g xs) ≡ sum_by f xs
sum-with_first_same p g f [] h = refl
sum-with_first_same p g f (x ∷ xs) h =
    ⊎_elim
    (λ (e : p x ≡ true). rw e (omega (arith, sum_by-cons f (g x) xs, sum_by-cons f x xs, h x e)))
    (λ (e : p x ≡ false). rw e (omega (arith, sum_by-cons f x (with_first p g xs), sum_by-cons f x xs, sum-with_first_same p g f xs h)))
    (cases_Bool (p x))

pub sum-without_first : {X : Type 0} (p : X → Bool) (f : X → ℕ) (xs : List X) (u : X) → first_of p xs ≡ Some u → sum_by f (without_first p xs) + f u ≡ sum_by f xs
sum-without_first p f [] u h = absurd (cc)
sum-without_first p f (x ∷ xs) u h =
    ⊎_elim
    (λ (e : p x ≡ true). let k : Some x ≡ Some u = rw e at h in let l : x ≡ u = cc in rw e (omega (arith, sum_by-cons f x xs, ap f l)))
    (λ (e : p x ≡ false). let k : first_of p xs ≡ Some u = rw e at h in rw e (omega (arith, sum_by-cons f x (without_first p xs), sum_by-cons f x xs, sum-without_first p f xs u k)))
    (cases_Bool (p x))

-- a change of every item that keeps each item's weight
pub sum-map_same : {X : Type 0} (f : X → X) (g : X → ℕ) (xs : List X) → ((x : X) → g (f x) ≡ g x) → sum_by g (map f xs) ≡ sum_by g xs
sum-map_same f g [] h = refl
sum-map_same f g (x ∷ xs) h = omega (arith, sum_by-cons g (f x) (map f xs), sum_by-cons g x xs, h x, sum-map_same f g xs h)

-- a change of every item that raises no item's weight
pub sum-map_le : {X : Type 0} (f : X → X) (g : X → ℕ) (xs : List X) → ((x : X) → g (f x) ≤ g x) → sum_by g (map f xs) ≤ sum_by g xs
sum-map_le f g [] h = omega arith
sum-map_le f g (x ∷ xs) h = omega (arith, sum_by-cons g (f x) (map f xs), sum_by-cons g x xs, h x, sum-map_le f g xs h)

pub sum-with_first_le : {X : Type 0} (p : X → Bool) (g : X → X) (f : X → ℕ) (xs : List X) → ((x : X) → p x ≡ true → f (g x) ≤ f x) → sum_by f (with_first p g xs) ≤ sum_by f xs
sum-with_first_le p g f [] h = omega arith
sum-with_first_le p g f (x ∷ xs) h =
    ⊎_elim
    (λ (e : p x ≡ true). rw e (omega (arith, sum_by-cons f (g x) xs, sum_by-cons f x xs, h x e)))
    (λ (e : p x ≡ false). rw e (omega (arith, sum_by-cons f x (with_first p g xs), sum_by-cons f x xs, sum-with_first_le p g f xs h)))
    (cases_Bool (p x))
