-- What giving blocks back leaves as it is.
use Rattle.std.specs.Prelude.{◌≡◌, ℕ, List, Some, slice_get}
use Rattle.tcmu_types.specs.declared.iovec.Iov.{Iov}
use Rattle.region_model.specs.Regions.{RegionState, IsOther, block_at, given_back, named_by}

-- a block that is at home stays as it is, also where a part comes for its place
abbrev pub BackLeavesHome : Type 0
BackLeavesHome = (r : RegionState) (iovs : List Iov) (parts : List (List ℕ)) (k : ℕ) (block : List ℕ) → block_at r k ≡ Some block → block_at (given_back r iovs parts) k ≡ Some block

-- a place whose block no iovec names stays as it is, lent or not, and none is added
abbrev pub BackLeavesOthers : Type 0
BackLeavesOthers = (r : RegionState) (iovs : List Iov) (parts : List (List ℕ)) (k : ℕ) → IsOther k (named_by r iovs) → slice_get (given_back r iovs parts).blocks k ≡ slice_get r.blocks k
