-- What the store below a medium holds, and what calls leave of it.
use Rattle.std.specs.Prelude.{◌≡◌, ℕ, zero, suc, ◌+◌, ◌/◌, ◌||◌, nat_lt, nat_le, List, [], ◌∷◌, ◌++◌, length, replicate, Option, Some, if◌then◌else◌}
use Rattle.std.specs.List.{filter, range_with_len}
use Rattle.std.specs.Option.{option_map}
use Rattle.tcmu_types.specs.Overwriting.{overwritten}
use Rattle.tcmu_types.specs.Numbered.{Numbered, ComesOut, one_more, next_call}
use Rattle.tcmu_types.specs.Numbers.{is_among}
use Rattle.tcmu_model.specs.MediumState.{Base}
use Rattle.scsi_model.specs.Calls.{Call, unchanged, Does, Leaves, Then}

-- ==== logical blocks by their numbers

-- these without n blocks from one on
abbrev pub without_blocks : ℕ → ℕ → List ℕ → List ℕ
without_blocks first n blocks = filter (λ b. nat_lt b first || nat_le (first + n) b) blocks

-- these and n blocks from one on
abbrev pub with_blocks : ℕ → ℕ → List ℕ → List ℕ
with_blocks first n blocks = range_with_len first n ++ without_blocks first n blocks

-- ==== bytes

-- bytes that stand from a place on, with zeros in these blocks
abbrev pub zeroed_from : ℕ → List ℕ → List ℕ → List ℕ
zeroed_from at blocks [] = []
zeroed_from at blocks (x ∷ xs) = (if is_among blocks (at / 512) then 0 else x) ∷ zeroed_from (at + 1) blocks xs

-- these bytes, with zeros in these blocks
abbrev pub zeroed : List ℕ → List ℕ → List ℕ
zeroed blocks bytes = zeroed_from 0 blocks bytes

-- ==== what a call leaves of a store

-- the piece stands from its place on, and its blocks are free no more
abbrev pub stored : ℕ → List ℕ → Base → Base
stored at piece s =
    record s { bytes = option_map (overwritten at piece) s.bytes; free = without_blocks (at / 512) (length piece / 512) s.free }

-- n bytes from a place on, which are whole blocks, are free
abbrev pub spoiled : ℕ → ℕ → Base → Base
spoiled at n s =
    record s { bytes = option_map (overwritten at (replicate n 0)) s.bytes; free = with_blocks (at / 512) (n / 512) s.free }

-- ==== calls of a store

-- a call that is no sync and changes no byte: it is counted, and fails as listed
abbrev pub AsksStore : Call Base
AsksStore s failed after = ComesOut s.calls failed × (after ≡ record s { calls = one_more s.calls })

-- a sync: it changes no byte either, and is one sync more, also where it fails
abbrev pub SyncsStore : Call Base
SyncsStore s failed after = ComesOut s.calls failed × (after ≡ record s { calls = one_more s.calls; syncs = next_call s.syncs })

-- a call that writes a piece
abbrev pub WritesStore : ℕ → List ℕ → Call Base
WritesStore at piece = Leaves AsksStore (stored at piece) (spoiled at (length piece))

-- one call for each of so many copies of a block, rising, up to the first that fails
abbrev pub FillsStore : ℕ → List ℕ → ℕ → Call Base
FillsStore at block zero = Does unchanged
FillsStore at block (suc n) = Then (WritesStore at block) (FillsStore (at + 512) block n)

-- ==== stores as they open

-- so many bytes as they are told, of which none is free, behind these calls and so many syncs
abbrev pub opened_store : ℕ → Option (List ℕ) → Numbered → ℕ → Base
opened_store size bytes calls syncs = record { size = size; bytes = bytes; free = []; calls = calls; syncs = syncs }

-- below memory there is none
abbrev pub no_store : Base
no_store = opened_store 0 (Some []) (record { fails = Some []; calls = 0 }) 0
