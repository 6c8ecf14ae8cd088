-- What every call below keeps, since each change that a call may leave keeps it.
use Rattle.std.proofs.Common.{◌≡◌, ℕ, zero, suc, ◌+◌, ◌*◌, ◌/◌, nat_le, List, [], ◌∷◌, length, sym, subst, refl}
use Rattle.tcmu_types.specs.Numbered.{one_more, next_call}
use Rattle.tcmu_model.specs.MediumState.{Dirty, Layer, memory, file, overlay, write_back, Base, Below}
use Rattle.scsi_model.specs.Calls.{Call, unchanged, Does, Leaves, Then}
use Rattle.scsi_model.specs.Base.{stored, spoiled, AsksStore, SyncsStore, WritesStore, FillsStore}
use Rattle.scsi_model.specs.Medium.{with_piece, with_lost, OnStore, dirty_blocks, with_dirty, dirty_from, joined_dirty, FlushesBlocks, Flushes, Dirties, DirtiesEach, WritesBack, ReadsBelow, WritesBelow, FillsBelow, SyncsBelow, repeated}
use Rattle.scsi_model.proofs.Joined.{Kept, IsOrder, does_kept, leaves_kept, then_kept, chosen_kept}

-- with another store
abbrev pub over : Base → Below → Below
over s b = record b { store = s }

-- a relation that each change stands in, but for those of dirty blocks
pub record IsSteady (R : Below → Below → Type 0) : Type 0 where
  pub order : IsOrder R
  pub piece : (at : ℕ) (piece : List ℕ) (b : Below) → R b (with_piece at piece b)
  pub lost : (at n : ℕ) (b : Below) → R b (with_lost at n b)
  pub asked : (b : Below) → R b (over (record b.store { calls = one_more b.store.calls }) b)
  pub put : (at : ℕ) (piece : List ℕ) (b : Below) → R b (over (stored at piece b.store) b)
  pub spoilt : (at n : ℕ) (b : Below) → R b (over (spoiled at n b.store) b)

-- and that of a sync too
abbrev pub Syncing : (Below → Below → Type 0) → Type 0
Syncing R = (b : Below) → R b (over (record b.store { calls = one_more b.store.calls; syncs = next_call b.store.syncs }) b)

-- and these too, where a layer has such blocks
abbrev pub Dirtying : (Below → Below → Type 0) → ℕ → Type 0
Dirtying R slots = (dirty : List Dirty) (b : Below) → R b (with_dirty slots dirty b)

abbrev pub DirtyingIn : (Below → Below → Type 0) → Layer → Type 0
DirtyingIn R (write_back slots dirty) = Dirtying R slots
DirtyingIn R _ = Unit {0}

-- ==== the store

-- the relation, seen from a store below
abbrev OnBase : (Below → Below → Type 0) → Base → Base → Type 0
OnBase R s t = (b : Below) → b.store ≡ s → R b (over t b)

base_order : (R : Below → Below → Type 0) → IsSteady R → IsOrder (OnBase R)
base_order R k = record {
  same = λ s b e. subst (λ t. R b (over t b)) e (k.order.same b);
  next = λ s t u x y b e. k.order.next b (over t b) (over u b) (x b e) (y (over t b) refl);
}

on_base : (R : Below → Below → Type 0) (change : Base → Base) → ((b : Below) → R b (over (change b.store) b)) → (s : Base) → OnBase R s (change s)
on_base R change h s b e = subst (λ t. R b (over (change t) b)) e (h b)

asks_kept : (R : Below → Below → Type 0) → IsSteady R → Kept (OnBase R) AsksStore
asks_kept R k s f a c = subst (OnBase R s) (sym c.1) (on_base R (λ t. record t { calls = one_more t.calls }) k.asked s)

syncs_store_kept : (R : Below → Below → Type 0) → Syncing R → Kept (OnBase R) SyncsStore
syncs_store_kept R y s f a c = subst (OnBase R s) (sym c.1) (on_base R (λ t. record t { calls = one_more t.calls; syncs = next_call t.syncs }) y s)

writes_store_kept : (R : Below → Below → Type 0) (at : ℕ) (piece : List ℕ) → IsSteady R → Kept (OnBase R) (WritesStore at piece)
writes_store_kept R at piece k =
    leaves_kept (OnBase R) AsksStore (stored at piece) (spoiled at (length piece)) (base_order R k) (asks_kept R k)
    (on_base R (stored at piece) (k.put at piece)) (on_base R (spoiled at (length piece)) (k.spoilt at (length piece)))

fills_store_kept : (R : Below → Below → Type 0) (at : ℕ) (block : List ℕ) (n : ℕ) → IsSteady R → Kept (OnBase R) (FillsStore at block n)
fills_store_kept R at block zero k = does_kept (OnBase R) unchanged (base_order R k).same
fills_store_kept R at block (suc n) k =
    then_kept (OnBase R) (WritesStore at block) (FillsStore (at + 512) block n) (base_order R k) (writes_store_kept R at block k) (fills_store_kept R (at + 512) block n k)

on_store_kept : (R : Below → Below → Type 0) (C : Call Base) → Kept (OnBase R) C → Kept R (OnStore C)
on_store_kept R C k b f a c = subst (R b) (sym c.2) (k b.store f c.0 c.1 b refl)

-- ==== write-back

flushes_blocks_kept : (R : Below → Below → Type 0) (slots : ℕ) (dirty : List Dirty) → IsSteady R → Dirtying R slots → Kept R (FlushesBlocks slots dirty)
flushes_blocks_kept R slots [] k d = does_kept R unchanged k.order.same
flushes_blocks_kept R slots (x ∷ xs) k d =
    then_kept R (Leaves (OnStore (WritesStore (512 * x.block) x.bytes)) (with_dirty slots xs) unchanged) (FlushesBlocks slots xs) k.order
    (leaves_kept R (OnStore (WritesStore (512 * x.block) x.bytes)) (with_dirty slots xs) unchanged k.order
    (on_store_kept R (WritesStore (512 * x.block) x.bytes) (writes_store_kept R (512 * x.block) x.bytes k)) (d xs) k.order.same)
    (flushes_blocks_kept R slots xs k d)

pub flushes_kept : (R : Below → Below → Type 0) (slots : ℕ) → IsSteady R → Dirtying R slots → Kept R (Flushes slots)
flushes_kept R slots k d b f a c = flushes_blocks_kept R slots (dirty_blocks b.layer) k d b f a c

dirties_kept : (R : Below → Below → Type 0) (slots first n : ℕ) (piece : List ℕ) → IsSteady R → Dirtying R slots → Kept R (Dirties slots first n piece)
dirties_kept R slots first n piece k d b f a c =
    let together = joined_dirty (dirty_blocks b.layer) first n piece in
    chosen_kept R (nat_le (length together) slots) (Does (with_dirty slots together)) (Then (Flushes slots) (Does (with_dirty slots (dirty_from first n piece))))
    (does_kept R (with_dirty slots together) (d together))
    (then_kept R (Flushes slots) (Does (with_dirty slots (dirty_from first n piece))) k.order (flushes_kept R slots k d)
    (does_kept R (with_dirty slots (dirty_from first n piece)) (d (dirty_from first n piece))))
    b f a c

dirties_each_kept : (R : Below → Below → Type 0) (slots first : ℕ) (block : List ℕ) (n : ℕ) → IsSteady R → Dirtying R slots → Kept R (DirtiesEach slots first block n)
dirties_each_kept R slots first block zero k d = does_kept R unchanged k.order.same
dirties_each_kept R slots first block (suc n) k d =
    then_kept R (Dirties slots first 1 block) (DirtiesEach slots (first + 1) block n) k.order (dirties_kept R slots first 1 block k d) (dirties_each_kept R slots (first + 1) block n k d)

stored_kept : (R : Below → Below → Type 0) (C : Call Base) (at : ℕ) (piece : List ℕ) (n : ℕ) → IsSteady R → Kept (OnBase R) C
    → Kept R (Leaves (OnStore C) (with_piece at piece) (with_lost at n))
stored_kept R C at piece n k c = leaves_kept R (OnStore C) (with_piece at piece) (with_lost at n) k.order (on_store_kept R C c) (k.piece at piece) (k.lost at n)

writes_back_kept : (R : Below → Below → Type 0) (slots at : ℕ) (piece : List ℕ) → IsSteady R → Dirtying R slots → Kept R (WritesBack slots at piece)
writes_back_kept R slots at piece k d =
    let n = length piece / 512 in
    let Direct : Call Below = Leaves (OnStore (WritesStore at piece)) (with_piece at piece) (with_lost at (length piece)) in
    chosen_kept R (nat_le n slots) (Then (Dirties slots (at / 512) n piece) (Does (with_piece at piece))) (Then (Flushes slots) Direct)
    (then_kept R (Dirties slots (at / 512) n piece) (Does (with_piece at piece)) k.order (dirties_kept R slots (at / 512) n piece k d) (does_kept R (with_piece at piece) (k.piece at piece)))
    (then_kept R (Flushes slots) Direct k.order (flushes_kept R slots k d) (stored_kept R (WritesStore at piece) at piece (length piece) k (writes_store_kept R at piece k)))

-- ==== the four calls below

pub reads_kept : (R : Below → Below → Type 0) (l : Layer) → IsSteady R → Kept R (ReadsBelow l)
reads_kept R memory k = does_kept R unchanged k.order.same
reads_kept R file k = on_store_kept R AsksStore (asks_kept R k)
reads_kept R overlay k = on_store_kept R AsksStore (asks_kept R k)
reads_kept R (write_back slots dirty) k = on_store_kept R AsksStore (asks_kept R k)

pub writes_kept : (R : Below → Below → Type 0) (l : Layer) (at : ℕ) (piece : List ℕ) → IsSteady R → DirtyingIn R l → Kept R (WritesBelow l at piece)
writes_kept R memory at piece k d = does_kept R (with_piece at piece) (k.piece at piece)
writes_kept R file at piece k d = stored_kept R (WritesStore at piece) at piece (length piece) k (writes_store_kept R at piece k)
writes_kept R overlay at piece k d = does_kept R (with_piece at piece) (k.piece at piece)
writes_kept R (write_back slots dirty) at piece k d = writes_back_kept R slots at piece k d

pub fills_kept : (R : Below → Below → Type 0) (l : Layer) (at : ℕ) (block : List ℕ) (count : ℕ) → IsSteady R → DirtyingIn R l → Kept R (FillsBelow l at block count)
fills_kept R memory at block count k d = does_kept R (with_piece at (repeated count block)) (k.piece at (repeated count block))
fills_kept R file at block count k d = stored_kept R (FillsStore at block count) at (repeated count block) (512 * count) k (fills_store_kept R at block count k)
fills_kept R overlay at block count k d = does_kept R (with_piece at (repeated count block)) (k.piece at (repeated count block))
fills_kept R (write_back slots dirty) at block count k d =
    leaves_kept R (DirtiesEach slots (at / 512) block count) (with_piece at (repeated count block)) (with_lost at (512 * count)) k.order
    (dirties_each_kept R slots (at / 512) block count k d) (k.piece at (repeated count block)) (k.lost at (512 * count))

pub syncs_kept : (R : Below → Below → Type 0) (l : Layer) → IsSteady R → Syncing R → DirtyingIn R l → Kept R (SyncsBelow l)
syncs_kept R memory k y d = does_kept R unchanged k.order.same
syncs_kept R file k y d = on_store_kept R SyncsStore (syncs_store_kept R y)
syncs_kept R overlay k y d = does_kept R unchanged k.order.same
syncs_kept R (write_back slots dirty) k y d = then_kept R (Flushes slots) (OnStore SyncsStore) k.order (flushes_kept R slots k d) (on_store_kept R SyncsStore (syncs_store_kept R y))
