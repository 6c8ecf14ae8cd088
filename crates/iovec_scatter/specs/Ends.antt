-- Where the iovecs along blocks end.
use Rattle.std.specs.Prelude.{ℕ, ◌+◌, ◌*◌, ◌^◌, ◌<◌, List, [], ◌∷◌}
use Rattle.region_model.specs.Iovecs.{iovs_along, EndBelow}

-- each number is below a limit
abbrev pub EachBelow : ℕ → List ℕ → Type 0
EachBelow limit [] = Unit {0}
EachBelow limit (n ∷ ns) = (n < limit) × EachBelow limit ns

-- where the blocks below a limit end below 2^64, so do the iovecs along such blocks
abbrev pub EndsAlong : Type 0
EndsAlong = (start size limit n : ℕ) (blocks : List ℕ) → start + size * limit < 2 ^ 64 → EachBelow limit blocks → EndBelow (iovs_along start size blocks n)
