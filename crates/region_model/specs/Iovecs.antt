-- Payloads along data blocks: the iovecs that name their bytes, and what stands there.
use Rattle.std.specs.Prelude.{◌≡◌, ◌≢◌, ℕ, ◌+◌, ◌-◌, ◌*◌, ◌^◌, ◌<◌, ◌≤◌, ◌==◌, min, List, [], ◌∷◌, ◌++◌, length, take, drop, if◌then◌else◌}
use Rattle.tcmu_types.specs.declared.iovec.Iov.{Iov}
use Rattle.tcmu_types.specs.ByteFields.{put}

-- ==== iovecs of a payload

-- the part of a payload that stands in one block, where `left` bytes of the payload are left; the blocks stand from `start` on
abbrev pub piece : ℕ → ℕ → ℕ → ℕ → Iov
piece start size block left = record { base = start + size * block; len = min size left }

-- two iovecs that touch, as one
abbrev pub joined : Iov → Iov → Iov
joined a b = record { base = a.base; len = a.len + b.len }

-- an iovec in front of others, joined with the first where they touch
unfoldable pub merged : Iov → List Iov → List Iov
merged iov [] = iov ∷ []
merged iov (next ∷ iovs) = if (iov.base + iov.len) == next.base then joined iov next ∷ iovs else iov ∷ next ∷ iovs

-- the iovecs of n bytes along blocks of a size, in order: neighbours merged, the last cut
unfoldable pub iovs_along : ℕ → ℕ → List ℕ → ℕ → List Iov
iovs_along start size [] n = []
iovs_along start size (block ∷ blocks) n = merged (piece start size block n) (iovs_along start size blocks (n - size))

-- each ends below 2^64, so that its end is a number of the code
abbrev pub EndBelow : List Iov → Type 0
EndBelow [] = Unit {0}
EndBelow (iov ∷ iovs) = (iov.base + iov.len < 2 ^ 64) × EndBelow iovs

-- ==== bytes along iovecs and blocks

-- how many bytes iovecs name
abbrev pub total_of : List Iov → ℕ
total_of [] = 0
total_of (iov ∷ iovs) = iov.len + total_of iovs

-- the bytes along iovecs
abbrev pub along : List ℕ → List Iov → List ℕ
along bytes [] = []
along bytes (iov ∷ iovs) = take iov.len (drop iov.base bytes) ++ along bytes iovs

-- the first n bytes of the blocks of a list, in its order
abbrev pub payload_along : List ℕ → ℕ → ℕ → List ℕ → ℕ → List ℕ
payload_along bytes start size [] n = []
payload_along bytes start size (block ∷ blocks) n =
    take (min size n) (drop (start + size * block) bytes) ++ payload_along bytes start size blocks (n - size)

-- no two that follow each other touch
abbrev pub AreApart : List Iov → Type 0
AreApart [] = Unit {0}
AreApart (iov ∷ []) = Unit {0}
AreApart (iov ∷ next ∷ iovs) = (iov.base + iov.len ≢ next.base) × AreApart (next ∷ iovs)

-- iovecs cover a payload of n bytes: over any bytes of the region they name just the payload, in order; their lengths sum up to n;
-- and neighbours are merged
pub record Covers (start size : ℕ) (blocks : List ℕ) (n : ℕ) (iovs : List Iov) : Type 0 where
  pub payload : (bytes : List ℕ) → along bytes iovs ≡ payload_along bytes start size blocks n
  pub total : total_of iovs ≡ n
  pub apart : AreApart iovs

-- ==== blocks as values

-- bytes written along blocks, in order
abbrev pub scattered : List (List ℕ) → List ℕ → List (List ℕ)
scattered [] bytes = []
scattered (block ∷ blocks) bytes = put block 0 (take (length block) bytes) ∷ scattered blocks (drop (length block) bytes)

-- the bytes of blocks, in order
abbrev pub gathered : List (List ℕ) → List ℕ
gathered [] = []
gathered (block ∷ blocks) = block ++ gathered blocks

-- how many bytes blocks have
abbrev pub room_of : List (List ℕ) → ℕ
room_of [] = 0
room_of (block ∷ blocks) = length block + room_of blocks

-- what was written along blocks is gathered again
abbrev pub GathersAgain : Type 0
GathersAgain = (parts : List (List ℕ)) (bytes : List ℕ) → length bytes ≤ room_of parts → take (length bytes) (gathered (scattered parts bytes)) ≡ bytes
