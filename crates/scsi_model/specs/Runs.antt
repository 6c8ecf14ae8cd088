-- Runs of a medium's calls, and what they keep.
use Rattle.std.specs.Prelude.{◌≡◌, ◌⊎◌, ℕ, ◌+◌, ◌*◌, ◌/◌, ◌%◌, ◌^◌, ◌<◌, ◌≤◌, Bool, true, false, List, [], ◌∷◌, length, slice_get, Some, IfSome, is_some}
use Rattle.std.specs.Option.{option_map, option_and_then}
use Rattle.tcmu_types.specs.Lists.{Every}
use Rattle.tcmu_types.specs.Numbers.{is_among}
use Rattle.tcmu_types.specs.Numbered.{next_call}
use Rattle.tcmu_model.specs.MediumState.{Span, Layer, memory, file, overlay, write_back, Base, MediumState}
use Rattle.scsi_model.specs.Calls.{Call}
use Rattle.scsi_model.specs.Base.{zeroed}
use Rattle.scsi_model.specs.Medium.{span_of, empty_span, lies_in, blanked, syncs_store, Reads, Writes, Fills, Syncs}

-- ==== runs

-- a call of a medium: a read of these bytes from a place on, a write of a piece, a fill with so many copies of a block, or a sync
pub data MediumCall : Type 0 where
  read : ℕ → List ℕ → MediumCall
  write : ℕ → List ℕ → MediumCall
  fill : ℕ → List ℕ → ℕ → MediumCall
  sync : MediumCall

-- its range lies in so many blocks, and one that writes has whole blocks
abbrev pub LiesWithin : ℕ → MediumCall → Type 0
LiesWithin blocks (read at out) = at + length out ≤ 512 * blocks
LiesWithin blocks (write at piece) = (at + length piece ≤ 512 * blocks) × (at % 512 ≡ 0) × (length piece % 512 ≡ 0)
LiesWithin blocks (fill at block count) = (at + 512 * count ≤ 512 * blocks) × (at % 512 ≡ 0) × (length block ≡ 512)
LiesWithin blocks sync = Unit {0}

abbrev pub CallMakes : MediumCall → Call MediumState
CallMakes (read at out) = Reads at out
CallMakes (write at piece) = Writes at piece
CallMakes (fill at block count) = Fills at block count
CallMakes sync = Syncs

-- a call that was made, and whether it failed
pub record MadeCall : Type 0 where
  pub call : MediumCall
  pub failed : Bool

-- these calls, in order, lead from one state to the other
abbrev pub Runs : List MadeCall → MediumState → MediumState → Type 0
Runs [] m after = after ≡ m
Runs (c ∷ cs) m after = (middle : MediumState) × LiesWithin m.blocks c.call × CallMakes c.call m c.failed middle × Runs cs middle after

-- some calls do
abbrev pub IsRun : MediumState → MediumState → Type 0
IsRun m after = (calls : List MadeCall) × Runs calls m after

-- ==== what no call changes

-- a layer, whatever is dirty
abbrev pub clean : Layer → Layer
clean memory = memory
clean file = file
clean overlay = overlay
clean (write_back slots dirty) = write_back slots []

-- Behind some calls: what a medium is, and what is told of it.
pub record Stays (m after : MediumState) : Type 0 where
  pub blocks : after.blocks ≡ m.blocks
  pub protected : after.protected ≡ m.protected
  pub layer : clean after.below.layer ≡ clean m.below.layer
  -- the store's length
  pub size : after.below.store.size ≡ m.below.store.size
  -- which calls fail, the medium's own and its store's
  pub own_fails : after.own.fails ≡ m.own.fails
  pub store_fails : after.below.store.calls.fails ≡ m.below.store.calls.fails
  -- the bytes that the medium shows, and those of its store, are told as before
  pub bytes : is_some after.below.bytes ≡ is_some m.below.bytes
  pub stored : is_some after.below.store.bytes ≡ is_some m.below.store.bytes

abbrev pub RunsKeep : Type 0
RunsKeep = (m after : MediumState) → IsRun m after → Stays m after

-- the medium counts each call
abbrev pub RunsCount : Type 0
RunsCount =
    (calls : List MadeCall) (m after : MediumState) → Runs calls m after → m.own.calls + length calls < 2 ^ 64
    → after.own.calls ≡ m.own.calls + length calls

-- ==== syncs

-- where a sync goes to a store, that was asked for one more
abbrev pub IsSynced : MediumState → MediumState → Type 0
IsSynced m after = syncs_store m.below.layer ≡ true → after.below.store.syncs ≡ next_call m.below.store.syncs

-- so it is behind each sync of a medium that did not fail
abbrev pub SyncsReach : Type 0
SyncsReach = (m after : MediumState) → Syncs m false after → IsSynced m after

-- ==== nothing lost

-- A lossless medium: it lies in memory, or in a file whose store lists no failing call, and nothing of it is lost.
pub record IsLossless (m : MediumState) : Type 0 where
  pub place : (m.below.layer ≡ memory) ⊎ ((m.below.layer ≡ file) × (m.below.store.calls.fails ≡ Some []))
  pub lost : m.below.lost ≡ empty_span

-- it stays one behind each run of its calls
abbrev pub RunsStayLossless : Type 0
RunsStayLossless = (m after : MediumState) → IsRun m after → IsLossless m → IsLossless after

-- ==== a file

-- A medium over a file of its own size: it shows what its store holds, but for the lost range, in which every free block lies.
pub record ShowsFile (m : MediumState) : Type 0 where
  pub layer : m.below.layer ≡ file
  pub size : m.below.store.size ≡ 512 * m.blocks
  pub long : IfSome m.below.store.bytes (λ xs. length xs ≡ m.below.store.size)
  pub ordered : m.below.lost.start ≤ m.below.lost.end
  pub inside : m.below.lost.end ≤ m.below.store.size
  pub bytes : m.below.bytes ≡ option_map (blanked m.below.lost) m.below.store.bytes
  pub free : (i : ℕ) → is_among m.below.store.free (i / 512) ≡ true → lies_in m.below.lost i ≡ true

-- it does so behind each run of its calls
abbrev pub RunsShowFile : Type 0
RunsShowFile = (m after : MediumState) → IsRun m after → ShowsFile m → ShowsFile after

-- bytes that its store may hold: those that the medium's calls left, whatever stands in the free blocks
abbrev pub MayHold : MediumState → List ℕ → Type 0
MayHold m xs = m.below.store.bytes ≡ Some (zeroed m.below.store.free xs)

-- bytes that are the same outside of a range
pub record SameBut (lost : Span) (xs ys : List ℕ) : Type 0 where
  pub long : length ys ≡ length xs
  pub bytes : (i : ℕ) → lies_in lost i ≡ false → slice_get ys i ≡ slice_get xs i

-- what it may hold is determined, but for the lost range
abbrev pub HoldsOne : Type 0
HoldsOne = (m : MediumState) (xs ys : List ℕ) → ShowsFile m → MayHold m xs → MayHold m ys → SameBut m.below.lost xs ys

-- whether a place lies in the range of a write or a fill
abbrev pub touches : ℕ → MediumCall → Bool
touches i (read at out) = false
touches i (write at piece) = lies_in (span_of at (length piece)) i
touches i (fill at block count) = lies_in (span_of at (512 * count)) i
touches i sync = false

-- the store holds at a place what it held: the same byte, which is known or free as it was
pub record SameAt (i : ℕ) (s after : Base) : Type 0 where
  pub byte : option_and_then (λ xs. slice_get xs i) after.bytes ≡ option_and_then (λ xs. slice_get xs i) s.bytes
  pub free : is_among after.free (i / 512) ≡ is_among s.free (i / 512)

-- so it does where the place lies in the range of no write or fill, a failed one too
abbrev pub RunsLeave : Type 0
RunsLeave =
    (calls : List MadeCall) (m after : MediumState) (i : ℕ) → Runs calls m after → ShowsFile m
    → Every (λ c. touches i c.call ≡ false) calls → SameAt i m.below.store after.below.store
