-- What copying in leaves, and when it is copied out again.
use Rattle.std.specs.Prelude.{◌≡◌, ℕ, ◌+◌, ◌*◌, ◌<◌, ◌≤◌, List, [], ◌∷◌, length, take, drop}
use Rattle.tcmu_types.specs.declared.iovec.Iov.{Iov}
use Rattle.region_model.specs.Iovecs.{along, total_of}
use Rattle.region_model.specs.Regions.{RegionState, IsRegion, HasLent, LieInRegion, size_of, bytes_of, copied_in}

-- no byte stands both among the n from a on and among the m from b on
abbrev pub ShareNone : ℕ → ℕ → ℕ → ℕ → Type 0
ShareNone a n b m = (i : ℕ) → a ≤ i → i < a + n → b ≤ i → i < b + m → ⊥

-- no iovec of a list names a byte of the m from b on
abbrev pub LeaveOut : List Iov → ℕ → ℕ → Type 0
LeaveOut [] b m = Unit {0}
LeaveOut (iov ∷ iovs) b m = ShareNone iov.base iov.len b m × LeaveOut iovs b m

-- no byte is named by two iovecs
abbrev pub AreDisjoint : List Iov → Type 0
AreDisjoint [] = Unit {0}
AreDisjoint (iov ∷ iovs) = LeaveOut iovs iov.base iov.len × AreDisjoint iovs

-- no iovec names a byte of a lent block
abbrev pub NameNoLent : RegionState → List Iov → Type 0
NameNoLent r iovs = (k : ℕ) → HasLent r k → LeaveOut iovs (length r.front + size_of r * k) (size_of r)

-- what was copied in is copied out again: the first n bytes
abbrev pub CopiesBack : Type 0
CopiesBack = (r : RegionState) (iovs : List Iov) (bytes : List ℕ) (n : ℕ) → IsRegion r.front r.blocks r.pages
    → LieInRegion r iovs → AreDisjoint iovs → NameNoLent r iovs → n ≤ length bytes → n ≤ total_of iovs
    → take n (along (bytes_of (copied_in r iovs bytes)) iovs) ≡ take n bytes

-- a part of the region that no iovec names stays as it was: the m bytes from b on
abbrev pub CopiesBeside : Type 0
CopiesBeside = (r : RegionState) (iovs : List Iov) (bytes : List ℕ) (b m : ℕ) → IsRegion r.front r.blocks r.pages
    → LieInRegion r iovs → NameNoLent r iovs → LeaveOut iovs b m
    → take m (drop b (bytes_of (copied_in r iovs bytes))) ≡ take m (drop b (bytes_of r))
