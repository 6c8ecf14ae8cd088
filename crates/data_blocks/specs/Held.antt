-- The data blocks that are held, as a set of numbers below a limit.
use Rattle.std.specs.Prelude.{◌≡◌, ℕ, ◌+◌, ◌-◌, ◌≤◌, ◌<◌, ◌||◌, ◌&&◌, not, max, true, false, List, [], ◌∷◌, length}
use Rattle.tcmu_types.specs.Numbers.{IsRising, above_all, is_among}

-- the held numbers, rising; how many blocks can still be taken without asking; and how many the data area has
pub record HeldBlocks : Type 0 where
  pub limit : ℕ
  pub held : List ℕ
  pub spare : ℕ
  pub grown : ℕ

abbrev pub free : HeldBlocks → ℕ
free b = b.limit - length b.held

-- what every set of held blocks keeps
pub record IsHeldBlocks (b : HeldBlocks) : Type 0 where
  pub limit_low : 1 ≤ b.limit
  pub limit_high : b.limit ≤ 4096
  pub rising : IsRising b.held
  pub below : (n : ℕ) → is_among b.held n ≡ true → n < b.limit
  pub reserved : length b.held + b.spare ≤ b.limit
  pub covered : above_all b.held ≤ b.grown
  pub within : b.grown ≤ b.limit

-- these numbers, none of which was held, are held too, and so many less are spare
pub record Took (b : HeldBlocks) (ns : List ℕ) (after : HeldBlocks) : Type 0 where
  pub limit : after.limit ≡ b.limit
  pub held : (n : ℕ) → is_among after.held n ≡ (is_among ns n || is_among b.held n)
  pub count : length after.held ≡ length b.held + length ns
  pub spare : after.spare + length ns ≡ b.spare
  pub grown : after.grown ≡ max b.grown (above_all ns)

-- these numbers, which were held, are free, and no other
pub record Gave (b : HeldBlocks) (ns : List ℕ) (after : HeldBlocks) : Type 0 where
  pub limit : after.limit ≡ b.limit
  pub held : (n : ℕ) → is_among after.held n ≡ (is_among b.held n && not (is_among ns n))
  pub count : length after.held + length ns ≡ length b.held
  pub spare : after.spare ≡ b.spare
  pub grown : after.grown ≡ b.grown

-- each of these numbers is held, and stands once in the list
abbrev pub AreHeld : List ℕ → List ℕ → Type 0
AreHeld held [] = Unit {0}
AreHeld held (n ∷ ns) = (is_among held n ≡ true) × (is_among ns n ≡ false) × AreHeld held ns
