-- What a region is after its front, or a block of it, was lent.
use Rattle.std.specs.Prelude.{ℕ, List, Option, option_map}
use Rattle.std.specs.Borrow.{Lends, LendsIf, MutBor, Fml, u8, Array}
use Rattle.region_model.specs.Regions.{RegionState, fitted, with_block, block_at}
use Rattle.shm_region.specs.contracts.region.Region.{the_row}

-- the region ends with the front that was left behind r
abbrev pub LendsFront : MutBor RegionState → MutBor (List ℕ) → Fml
LendsFront s r = Lends the_row (Array u8 0) s r (λ w. record s.now { front = fitted s.now.front w })

-- a region in which other bytes stand in a block, as many as before
abbrev pub with_bytes : RegionState → ℕ → List ℕ → RegionState
with_bytes r k bytes = with_block r k (option_map (λ old. fitted old bytes) (block_at r k))

-- the region ends with the bytes that were left behind r in block k
abbrev pub LendsBlock : MutBor RegionState → ℕ → MutBor (List ℕ) → Fml
LendsBlock s k r = Lends the_row (Array u8 0) s r (with_bytes s.now k)

-- the same where r is a reference; and where it is none the region stays as it is
abbrev pub LendsArea : MutBor RegionState → ℕ → Option (MutBor (List ℕ)) → Fml
LendsArea s k r = LendsIf the_row (Array u8 0) s r (with_bytes s.now k) s.now
