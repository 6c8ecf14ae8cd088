-- A region: the bytes before its data area, and the blocks of the area, of which some are lent.
use Rattle.std.specs.Prelude.{◌≡◌, ◌≢◌, ℕ, ◌+◌, ◌-◌, ◌/◌, ◌%◌, ◌^◌, ◌<◌, ◌≤◌, ◌==◌, ◌&&◌, nat_le, nat_lt, Bool, true, false, List, [], ◌∷◌, ◌++◌, length, take, drop, replicate, slice_get, slice_set, Option, Some, None, unwrap_or, option_map}
use Rattle.std.specs.List.{range_with_len}
use Rattle.tcmu_types.specs.Data.{SettingsData}
use Rattle.tcmu_types.specs.declared.iovec.Iov.{Iov}
use Rattle.tcmu_model.specs.Lengths.{block_size}
use Rattle.region_model.specs.Layout.{data_start, mailbox_bytes, device_mailbox}
use Rattle.tcmu_types.specs.ByteFields.{put, padded}
use Rattle.tcmu_types.specs.Overwriting.{zeros}

-- the bytes before the data area; its blocks, of which one that is lent is None; and the pages of 4096 bytes of a block
pub record RegionState : Type 0 where
  pub front : List ℕ
  pub blocks : List (Option (List ℕ))
  pub pages : ℕ

-- the bytes of a block
abbrev pub size_of : RegionState → ℕ
size_of r = block_size r.pages

-- ==== its bytes, and what is lent

-- the bytes of blocks, where one that is lent is zeros
abbrev pub shown : ℕ → List (Option (List ℕ)) → List ℕ
shown size [] = []
shown size (None ∷ blocks) = zeros size ++ shown size blocks
shown size (Some block ∷ blocks) = block ++ shown size blocks

-- the bytes of the region
abbrev pub bytes_of : RegionState → List ℕ
bytes_of r = r.front ++ shown (size_of r) r.blocks

-- block k is in the area, and lent
abbrev pub HasLent : RegionState → ℕ → Type 0
HasLent r k = slice_get r.blocks k ≡ Some None

-- what stands in a place: a block's bytes, and none where the block is lent or not there
abbrev pub home : Option (Option (List ℕ)) → Option (List ℕ)
home None = None
home (Some block) = block

abbrev pub block_at : RegionState → ℕ → Option (List ℕ)
block_at r k = home (slice_get r.blocks k)

-- ==== limits

-- each block at home has the size
abbrev pub AreSized : ℕ → List (Option (List ℕ)) → Type 0
AreSized size [] = Unit {0}
AreSized size (None ∷ blocks) = AreSized size blocks
AreSized size (Some block ∷ blocks) = (length block ≡ size) × AreSized size blocks

-- what every region keeps
pub record IsRegion (front : List ℕ) (blocks : List (Option (List ℕ))) (pages : ℕ) : Type 0 where
  pub least : 1 ≤ pages
  pub most : pages ≤ 16
  pub mailbox : 4096 ≤ length front
  pub whole : length front ≤ 4198400
  pub count : length blocks < 2 ^ 32
  pub sized : AreSized (block_size pages) blocks

-- ==== changes of the area

-- a new region: the mailbox, an empty ring, and no block
abbrev pub opening_region : SettingsData → RegionState
opening_region s = record {
  front = padded (data_start s.ring) (mailbox_bytes (device_mailbox s.flags s.ring 0 0));
  blocks = [];
  pages = s.pages;
}

-- blocks of zeros added until there are n
abbrev pub grown_to : RegionState → ℕ → RegionState
grown_to r n = record r { blocks = r.blocks ++ replicate (n - length r.blocks) (Some (zeros (size_of r))) }

-- the last places dropped, lent or not, until there are at most n
abbrev pub shrunk_to : RegionState → ℕ → RegionState
shrunk_to r n = record r { blocks = take n r.blocks }

-- a place where another block stands
abbrev pub with_block : RegionState → ℕ → Option (List ℕ) → RegionState
with_block r k block = record r { blocks = slice_set r.blocks k block }

-- a block of zeros in the place of one at home; a lent one stays
abbrev pub cleared : ℕ → Option (List ℕ) → Option (List ℕ)
cleared size block = option_map (λ _. zeros size) block

-- bytes in the place of as many others
abbrev pub fitted : List ℕ → List ℕ → List ℕ
fitted old new = take (length old) (new ++ drop (length new) old)

-- ==== lending

-- the blocks that an iovec touches, where it begins at a block's start; the area begins at byte `start`
abbrev pub first_block : ℕ → ℕ → Iov → ℕ
first_block start size iov = (iov.base - start) / size

abbrev pub block_count : ℕ → Iov → ℕ
block_count size iov = (iov.len + (size - 1)) / size

abbrev pub numbers_of : ℕ → ℕ → List Iov → List ℕ
numbers_of start size [] = []
numbers_of start size (iov ∷ iovs) = range_with_len (first_block start size iov) (block_count size iov) ++ numbers_of start size iovs

-- an iovec begins at a block's start, and has a byte
abbrev pub starts_block : ℕ → ℕ → Iov → Bool
starts_block start size iov = nat_le start iov.base && ((iov.base - start) % size == 0) && nat_lt 0 iov.len

-- each does, and each but the last ends at a block's end
abbrev pub are_whole : ℕ → ℕ → List Iov → Bool
are_whole start size [] = true
are_whole start size (iov ∷ []) = starts_block start size iov
are_whole start size (iov ∷ next ∷ iovs) = starts_block start size iov && (iov.len % size == 0) && are_whole start size (next ∷ iovs)

abbrev pub is_home : Option (Option (List ℕ)) → Bool
is_home None = false
is_home (Some None) = false
is_home (Some (Some block)) = true

-- the blocks of a list of numbers are at home, each still after those before it were lent
abbrev pub can_take : List (Option (List ℕ)) → List ℕ → Bool
can_take blocks [] = true
can_take blocks (n ∷ ns) = is_home (slice_get blocks n) && can_take (slice_set blocks n None) ns

-- those blocks, in order
abbrev pub taken : List (Option (List ℕ)) → List ℕ → List (List ℕ)
taken blocks [] = []
taken blocks (n ∷ ns) = unwrap_or (home (slice_get blocks n)) [] ∷ taken (slice_set blocks n None) ns

-- the blocks where those are lent
abbrev pub without : List (Option (List ℕ)) → List ℕ → List (Option (List ℕ))
without blocks [] = blocks
without blocks (n ∷ ns) = without (slice_set blocks n None) ns

-- a block put to its place where that place is lent
abbrev pub put_where : Option (Option (List ℕ)) → List (Option (List ℕ)) → ℕ → List ℕ → List (Option (List ℕ))
put_where None blocks n part = blocks
put_where (Some None) blocks n part = slice_set blocks n (Some part)
put_where (Some (Some block)) blocks n part = blocks

abbrev pub put_home : List (Option (List ℕ)) → ℕ → List ℕ → List (Option (List ℕ))
put_home blocks n part = put_where (slice_get blocks n) blocks n part

-- blocks given back, the last one first
abbrev pub returned : List (Option (List ℕ)) → List ℕ → List (List ℕ) → List (Option (List ℕ))
returned blocks [] parts = blocks
returned blocks (n ∷ ns) [] = blocks
returned blocks (n ∷ ns) (part ∷ parts) = put_home (returned blocks ns parts) n part

-- the same of a region, by iovecs
abbrev pub named_by : RegionState → List Iov → List ℕ
named_by r iovs = numbers_of (length r.front) (size_of r) iovs

abbrev pub can_lend : RegionState → List Iov → Bool
can_lend r iovs = are_whole (length r.front) (size_of r) iovs && can_take r.blocks (named_by r iovs)

abbrev pub lent : RegionState → List Iov → RegionState
lent r iovs = record r { blocks = without r.blocks (named_by r iovs) }

abbrev pub parts_of : RegionState → List Iov → List (List ℕ)
parts_of r iovs = taken r.blocks (named_by r iovs)

abbrev pub given_back : RegionState → List Iov → List (List ℕ) → RegionState
given_back r iovs parts = record r { blocks = returned r.blocks (named_by r iovs) parts }

-- each part has the size of a block
abbrev pub HaveSize : ℕ → List (List ℕ) → Type 0
HaveSize size [] = Unit {0}
HaveSize size (part ∷ parts) = (length part ≡ size) × HaveSize size parts

-- ==== the rule of lending in words

abbrev pub StartsBlock : ℕ → ℕ → Iov → Type 0
StartsBlock start size iov = (start ≤ iov.base) × ((iov.base - start) % size ≡ 0) × (0 < iov.len)

-- each iovec begins at a block's start and has a byte, and each but the last has a multiple of the block's bytes
abbrev pub AreWhole : ℕ → ℕ → List Iov → Type 0
AreWhole start size [] = Unit {0}
AreWhole start size (iov ∷ []) = StartsBlock start size iov
AreWhole start size (iov ∷ next ∷ iovs) = StartsBlock start size iov × (iov.len % size ≡ 0) × AreWhole start size (next ∷ iovs)

-- each of these blocks is in the area, and not lent
abbrev pub AreHome : List (Option (List ℕ)) → List ℕ → Type 0
AreHome blocks [] = Unit {0}
AreHome blocks (n ∷ ns) = (is_home (slice_get blocks n) ≡ true) × AreHome blocks ns

-- n is none of these
abbrev pub IsOther : ℕ → List ℕ → Type 0
IsOther n [] = Unit {0}
IsOther n (k ∷ ks) = (n ≢ k) × IsOther n ks

-- no number stands twice
abbrev pub AreOnce : List ℕ → Type 0
AreOnce [] = Unit {0}
AreOnce (n ∷ ns) = IsOther n ns × AreOnce ns

pub record CanLend (r : RegionState) (iovs : List Iov) : Type 0 where
  pub whole : AreWhole (length r.front) (size_of r) iovs
  pub there : AreHome r.blocks (named_by r iovs)
  pub once : AreOnce (named_by r iovs)

-- no more blocks can be lent than the area has
abbrev pub LendsFew : Type 0
LendsFew = (r : RegionState) (iovs : List Iov) → can_lend r iovs ≡ true → length (named_by r iovs) ≤ length r.blocks

-- what was lent and is given back stands where it stood
abbrev pub LendsAndTakesBack : Type 0
LendsAndTakesBack = (r : RegionState) (iovs : List Iov) → can_lend r iovs ≡ true → given_back (lent r iovs) iovs (parts_of r iovs) ≡ r

-- ==== bytes written over a region

-- the bytes x, which stand at a place, where bytes were written from `at` on
unfoldable pub overlaid : ℕ → ℕ → List ℕ → List ℕ → List ℕ
overlaid place at bytes x = put x (at - place) (take (length x - (at - place)) (drop (place - at) bytes))

-- blocks, of which the first stands at a place, where bytes were written from `at` on; a lent one stays
abbrev pub blocks_over : ℕ → ℕ → ℕ → List ℕ → List (Option (List ℕ)) → List (Option (List ℕ))
blocks_over place size at bytes [] = []
blocks_over place size at bytes (block ∷ blocks) =
    option_map (overlaid place at bytes) block ∷ blocks_over (place + size) size at bytes blocks

-- a region where bytes were written from `at` on
abbrev pub wrote : RegionState → ℕ → List ℕ → RegionState
wrote r at bytes = record r {
  front = overlaid 0 at bytes r.front;
  blocks = blocks_over (length r.front) (size_of r) at bytes r.blocks;
}

-- a region where bytes were written along iovecs
abbrev pub copied_in : RegionState → List Iov → List ℕ → RegionState
copied_in r [] bytes = r
copied_in r (iov ∷ iovs) bytes = copied_in (wrote r iov.base (take iov.len bytes)) iovs (drop iov.len bytes)

-- each iovec lies inside the region
abbrev pub LieInRegion : RegionState → List Iov → Type 0
LieInRegion r [] = Unit {0}
LieInRegion r (iov ∷ iovs) = (iov.base + iov.len ≤ length (bytes_of r)) × LieInRegion r iovs
