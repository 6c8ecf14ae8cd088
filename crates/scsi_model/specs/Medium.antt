-- The calls of a medium: READ, WRITE, a fill for WRITE SAME and UNMAP, and SYNCHRONIZE CACHE (SBC-3) each make one. A call is a
-- relation: the state before it, whether it failed, the state after it.
use Rattle.std.specs.Prelude.{◌≡◌, ◌⊎◌, ℕ, zero, suc, ◌+◌, ◌-◌, ◌*◌, ◌/◌, ◌<◌, min, max, Bool, true, false, ◌&&◌, nat_lt, nat_le, List, [], ◌∷◌, ◌++◌, length, take, drop, replicate, slice_index, Option, Some, IfSome, if◌then◌else◌}
use Rattle.std.specs.List.{filter}
use Rattle.std.specs.Option.{option_map}
use Rattle.tcmu_types.specs.Overwriting.{overwritten}
use Rattle.tcmu_types.specs.Numbered.{Numbered, ComesOut, one_more}
use Rattle.tcmu_model.specs.MediumState.{Span, Dirty, Layer, memory, file, overlay, write_back, Base, Below, MediumState}
use Rattle.scsi_model.specs.Calls.{Call, unchanged, Does, Leaves, Then, Chosen}
use Rattle.scsi_model.specs.Base.{AsksStore, SyncsStore, WritesStore, FillsStore, opened_store, no_store}

-- ==== spans

-- n bytes from a place on
abbrev pub span_of : ℕ → ℕ → Span
span_of at n = record { start = at; end = at + n }

abbrev pub empty_span : Span
empty_span = record { start = 0; end = 0 }

abbrev pub lies_in : Span → ℕ → Bool
lies_in s i = nat_le s.start i && nat_lt i s.end

abbrev pub covers : Span → Span → Bool
covers s t = nat_le s.start t.start && nat_le t.end s.end

-- the least span that covers a lost one and another; an empty one covers nothing
abbrev pub widened : Span → Span → Span
widened lost s =
    if nat_lt lost.start lost.end then record { start = min lost.start s.start; end = max lost.end s.end } else s

-- what stays lost behind a success over a span: nothing, where the span covers all that was lost
abbrev pub narrowed : Span → Span → Span
narrowed lost s = if covers s lost then empty_span else lost

-- ==== bytes

-- so many copies of a block
abbrev pub repeated : ℕ → List ℕ → List ℕ
repeated zero block = []
repeated (suc n) block = block ++ repeated n block

-- these bytes, with zeros where they are lost
abbrev pub blanked : Span → List ℕ → List ℕ
blanked lost bytes = overwritten lost.start (replicate (lost.end - lost.start) 0) bytes

-- ==== what a call leaves below

-- the piece stands from its place on
abbrev pub with_piece : ℕ → List ℕ → Below → Below
with_piece at piece b =
    let lost = narrowed b.lost (span_of at (length piece)) in
    record b { lost = lost; bytes = option_map (λ bytes. blanked lost (overwritten at piece bytes)) b.bytes }

-- what stands in n bytes from a place on is not known
abbrev pub with_lost : ℕ → ℕ → Below → Below
with_lost at n b =
    let lost = widened b.lost (span_of at n) in record b { lost = lost; bytes = option_map (blanked lost) b.bytes }

-- a call of the store; what the medium shows stays
abbrev pub OnStore : Call Base → Call Below
OnStore Made b failed after = (store : Base) × Made b.store failed store × (after ≡ record b { store = store })

-- ==== write-back

-- the blocks that are not yet in the store
abbrev pub dirty_blocks : Layer → List Dirty
dirty_blocks (write_back slots dirty) = dirty
dirty_blocks _ = []

abbrev pub with_dirty : ℕ → List Dirty → Below → Below
with_dirty slots dirty b = record b { layer = write_back slots dirty }

-- n blocks from one on, with the bytes of a piece
abbrev pub dirty_from : ℕ → ℕ → List ℕ → List Dirty
dirty_from first zero piece = []
dirty_from first (suc n) piece = record { block = first; bytes = take 512 piece } ∷ dirty_from (first + 1) n (drop 512 piece)

-- these blocks, and n from one on with the bytes of a piece in their place; both rising
abbrev pub joined_dirty : List Dirty → ℕ → ℕ → List ℕ → List Dirty
joined_dirty dirty first n piece =
    filter (λ d. nat_lt d.block first) dirty ++ dirty_from first n piece ++ filter (λ d. nat_le (first + n) d.block) dirty

-- each of these blocks is written to the store by a call of its own and is clean behind it, up to the first that fails
abbrev pub FlushesBlocks : ℕ → List Dirty → Call Below
FlushesBlocks slots [] = Does unchanged
FlushesBlocks slots (d ∷ ds) =
    Then (Leaves (OnStore (WritesStore (512 * d.block) d.bytes)) (with_dirty slots ds) unchanged) (FlushesBlocks slots ds)

-- all dirty ones, rising
abbrev pub Flushes : ℕ → Call Below
Flushes slots b = FlushesBlocks slots (dirty_blocks b.layer) b

-- n blocks from one on get dirty; a flush comes first exactly where they and the dirty ones together are more than the slots
abbrev pub Dirties : ℕ → ℕ → ℕ → List ℕ → Call Below
Dirties slots first n piece b =
    let together = joined_dirty (dirty_blocks b.layer) first n piece in
    Chosen (nat_le (length together) slots)
    (Does (with_dirty slots together))
    (Then (Flushes slots) (Does (with_dirty slots (dirty_from first n piece))))
    b

-- n times one block, rising, up to the first that fails
abbrev pub DirtiesEach : ℕ → ℕ → List ℕ → ℕ → Call Below
DirtiesEach slots first block zero = Does unchanged
DirtiesEach slots first block (suc n) = Then (Dirties slots first 1 block) (DirtiesEach slots (first + 1) block n)

-- a piece of more blocks than there are slots goes to the store at once, behind a flush
abbrev pub WritesBack : ℕ → ℕ → List ℕ → Call Below
WritesBack slots at piece =
    Chosen (nat_le (length piece / 512) slots)
    (Then (Dirties slots (at / 512) (length piece / 512) piece) (Does (with_piece at piece)))
    (Then (Flushes slots) (Leaves (OnStore (WritesStore at piece)) (with_piece at piece) (with_lost at (length piece))))

-- ==== layers

-- whether a store lies below
abbrev pub has_store : Layer → Bool
has_store memory = false
has_store file = true
has_store overlay = true
has_store (write_back slots dirty) = true

-- whether a sync goes to it: one of an overlay does not
abbrev pub syncs_store : Layer → Bool
syncs_store memory = false
syncs_store file = true
syncs_store overlay = false
syncs_store (write_back slots dirty) = true

-- ==== the four calls below a medium's own list

abbrev pub ReadsBelow : Layer → Call Below
ReadsBelow memory = Does unchanged
ReadsBelow file = OnStore AsksStore
ReadsBelow overlay = OnStore AsksStore
ReadsBelow (write_back slots dirty) = OnStore AsksStore

abbrev pub WritesBelow : Layer → ℕ → List ℕ → Call Below
WritesBelow memory at piece = Does (with_piece at piece)
WritesBelow file at piece = Leaves (OnStore (WritesStore at piece)) (with_piece at piece) (with_lost at (length piece))
WritesBelow overlay at piece = Does (with_piece at piece)
WritesBelow (write_back slots dirty) at piece = WritesBack slots at piece

-- A failed fill loses its whole range, and only a whole fill empties what was lost. Of a file's store only the block is spoiled whose call
-- failed: those before it are stored.
abbrev pub FillsBelow : Layer → ℕ → List ℕ → ℕ → Call Below
FillsBelow memory at block count = Does (with_piece at (repeated count block))
FillsBelow file at block count = Leaves (OnStore (FillsStore at block count)) (with_piece at (repeated count block)) (with_lost at (512 * count))
FillsBelow overlay at block count = Does (with_piece at (repeated count block))
FillsBelow (write_back slots dirty) at block count =
    Leaves (DirtiesEach slots (at / 512) block count) (with_piece at (repeated count block)) (with_lost at (512 * count))

abbrev pub SyncsBelow : Layer → Call Below
SyncsBelow memory = Does unchanged
SyncsBelow file = OnStore SyncsStore
SyncsBelow overlay = Does unchanged
SyncsBelow (write_back slots dirty) = Then (Flushes slots) (OnStore SyncsStore)

-- ==== the four calls of a medium

abbrev pub counted : MediumState → MediumState
counted m = record m { own = one_more m.own }

-- one call of the medium is counted; it fails and does nothing where it is listed, and is made below where it is not
abbrev pub MakesCall : Call Below → Call MediumState
MakesCall Made m failed after =
    (ComesOut m.own true × (failed ≡ true) × (after ≡ counted m))
    ⊎ (ComesOut m.own false × (below : Below) × Made m.below failed below × (after ≡ record (counted m) { below = below }))

-- these bytes are those from a place on, as far as they are told
abbrev pub MatchesTold : Below → ℕ → List ℕ → Type 0
MatchesTold b at out =
    IfSome b.bytes (λ bytes. (i : ℕ) → i < length out → lies_in b.lost (at + i) ≡ false → slice_index out i ≡ slice_index bytes (at + i))

-- `out` is read from a place on
pub record Reads (at : ℕ) (out : List ℕ) (m : MediumState) (failed : Bool) (after : MediumState) : Type 0 where
  pub made : MakesCall (ReadsBelow m.below.layer) m failed after
  pub told : failed ≡ false → MatchesTold m.below at out

-- `piece` is written from a place on
abbrev pub Writes : ℕ → List ℕ → Call MediumState
Writes at piece m = MakesCall (WritesBelow m.below.layer at piece) m

-- `count` copies of a block are written from a place on
abbrev pub Fills : ℕ → List ℕ → ℕ → Call MediumState
Fills at block count m = MakesCall (FillsBelow m.below.layer at block count) m

abbrev pub Syncs : Call MediumState
Syncs m = MakesCall (SyncsBelow m.below.layer) m

-- ==== media as they open

-- these bytes in memory, of which none is lost
abbrev pub in_memory : List ℕ → Below
in_memory bytes = record { bytes = Some bytes; lost = empty_span; layer = memory; store = no_store }

-- so many logical blocks of zeros in memory
abbrev pub memory_below : ℕ → Below
memory_below blocks = in_memory (replicate (512 * blocks) 0)

-- a file as its store tells it
abbrev pub file_below : ℕ → Option (List ℕ) → Numbered → ℕ → Below
file_below size bytes calls syncs = record { bytes = bytes; lost = empty_span; layer = file; store = opened_store size bytes calls syncs }

-- so many logical blocks over what bears them, with a protected bit and a list of calls that fail
abbrev pub opened_medium : ℕ → Bool → List ℕ → Below → MediumState
opened_medium blocks protected fails below =
    record { blocks = blocks; protected = protected; own = record { fails = Some fails; calls = 0 }; below = below }

-- ==== memory

-- what a medium in memory shows, of which no call fails
abbrev pub memory_state : ℕ → List ℕ → ℕ → MediumState
memory_state blocks bytes calls =
    record { blocks = blocks; protected = false; own = record { fails = Some []; calls = calls }; below = in_memory bytes }
