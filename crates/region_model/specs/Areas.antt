-- The data blocks of a command in a region's area: what stands along them, and bytes written along them.
use Rattle.std.specs.Prelude.{◌≡◌, ℕ, List, [], ◌∷◌, ◌++◌, length, take, drop, slice_get, slice_set, Option, Some, None}
use Rattle.tcmu_types.specs.Overwriting.{zeros}
use Rattle.region_model.specs.Regions.{home}

-- the bytes of a block; one that is lent, or not there, reads as zeros
abbrev pub block_bytes : ℕ → Option (List ℕ) → List ℕ
block_bytes size None = zeros size
block_bytes size (Some block) = block

-- the bytes along blocks
abbrev pub bytes_along : ℕ → List (Option (List ℕ)) → List ℕ → List ℕ
bytes_along size area [] = []
bytes_along size area (n ∷ ns) = block_bytes size (home (slice_get area n)) ++ bytes_along size area ns

-- bytes over the front of a block, where it is at home
abbrev pub over : List ℕ → Option (List ℕ) → Option (List ℕ)
over bytes None = None
over bytes (Some block) = Some (bytes ++ drop (length bytes) block)

-- bytes along blocks of a size, in order
abbrev pub written_along : ℕ → List (Option (List ℕ)) → List ℕ → List ℕ → List (Option (List ℕ))
written_along size area [] bytes = area
written_along size area (n ∷ ns) bytes =
    written_along size (slice_set area n (over (take size bytes) (home (slice_get area n)))) ns (drop size bytes)

-- a block is in the area, whole and not lent
abbrev pub IsHome : ℕ → List (Option (List ℕ)) → ℕ → Type 0
IsHome size area n = (block : List ℕ) × (slice_get area n ≡ Some (Some block)) × (length block ≡ size)

-- a block is in the area, and lent
abbrev pub IsLent : List (Option (List ℕ)) → ℕ → Type 0
IsLent area n = slice_get area n ≡ Some None
