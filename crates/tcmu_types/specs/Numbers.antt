-- Lists of numbers: whether a number stands in one, whether they rise, whether they differ.
use Rattle.std.specs.Prelude.{if◌then◌else◌, List, [], max, ℕ, ◌+◌, ◌<◌, ◌∷◌, Bool, ◌==◌, false, ◌++◌, ◌≡◌, ◌≤◌}
use Rattle.std.specs.List.{list_any}

-- 1 for true, 0 for false
abbrev pub bit : Bool → ℕ
bit b = if b then 1 else 0

-- the numbers rise, from above n on
abbrev pub RisesAbove : ℕ → List ℕ → Type 0
RisesAbove n [] = Unit {0}
RisesAbove n (x ∷ xs) = (n < x) × RisesAbove x xs

-- each number is above the one before
abbrev pub IsRising : List ℕ → Type 0
IsRising [] = Unit {0}
IsRising (x ∷ xs) = RisesAbove x xs

-- one more than the greatest of some numbers, 0 where there is none
abbrev pub above_all : List ℕ → ℕ
above_all [] = 0
above_all (x ∷ xs) = max (x + 1) (above_all xs)

-- this serial stands in a list
abbrev pub is_among : List ℕ → ℕ → Bool
is_among ss s = list_any (λ k. k == s) ss

-- each number is above the one before it, the first above `low`, and none is above `high`
abbrev pub Rise : ℕ → List ℕ → ℕ → Type 0
Rise low [] high = low ≤ high
Rise low (x ∷ xs) high = (low < x) × Rise x xs high

-- the list begins with this front
abbrev pub Begins : List ℕ → List ℕ → Type 0
Begins front xs = (rest : List ℕ) × (xs ≡ front ++ rest)

-- the numbers differ
abbrev pub Differ : List ℕ → Type 0
Differ [] = Unit {0}
Differ (s ∷ ss) = (is_among ss s ≡ false) × Differ ss
