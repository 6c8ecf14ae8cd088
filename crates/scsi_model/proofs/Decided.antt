-- Each call of a medium has an outcome, and only one where the failing calls of the medium and of its store are told.
use Rattle.std.proofs.Common.{◌∙◌, ◌≡◌, ℕ, zero, suc, ◌+◌, ◌*◌, ◌/◌, Bool, true, false, nat_le, List, [], ◌∷◌, length, sym, ap, refl, Option, Some, None, IfSome, is_some}
use Rattle.tcmu_types.specs.Numbered.{Numbered, ComesOut, is_listed, one_more, next_call}
use Rattle.tcmu_model.specs.MediumState.{Dirty, Layer, memory, file, overlay, write_back, Base, Below}
use Rattle.scsi_model.specs.Calls.{Call, unchanged, Does, Leaves, Then, Chosen}
use Rattle.scsi_model.specs.Base.{stored, spoiled, AsksStore, SyncsStore, WritesStore, FillsStore}
use Rattle.scsi_model.specs.Medium.{with_piece, with_lost, OnStore, dirty_blocks, with_dirty, dirty_from, joined_dirty, FlushesBlocks, Flushes, Dirties, DirtiesEach, WritesBack, ReadsBelow, WritesBelow, FillsBelow, SyncsBelow, repeated}
use Rattle.scsi_model.proofs.Joined.{IsDecided, does_decided, leaves_decided, then_decided, chosen_decided}

pub true_false : {X : Type 0} → true ≡ false → X
true_false e = absurd (cc)

-- ==== a numbered call

pub comes_one : (c : Numbered) (f g : Bool) → is_some c.fails ≡ true → ComesOut c f → ComesOut c g → f ≡ g
comes_one c f g t x y = by c.fails t x y
  where
    by : (o : Option (List ℕ)) → is_some o ≡ true → IfSome o (λ fs. f ≡ is_listed fs c.calls) → IfSome o (λ fs. g ≡ is_listed fs c.calls) → f ≡ g
    by None t x y = true_false (sym t)
    by (Some fs) t x y = x ∙ sym y

pub comes_some : (c : Numbered) → (f : Bool) × ComesOut c f
comes_some c = by c.fails
  where
    by : (o : Option (List ℕ)) → (f : Bool) × IfSome o (λ fs. f ≡ is_listed fs c.calls)
    by None = (false, tt)
    by (Some fs) = (is_listed fs c.calls, refl)

-- ==== the store

-- its failing calls are told
abbrev pub tells_store : Base → Bool
tells_store s = is_some s.calls.fails

abbrev pub tells_below : Below → Bool
tells_below b = tells_store b.store

asks_decided : IsDecided tells_store AsksStore
asks_decided = record {
  some = λ s. let x = comes_some s.calls in (x.0, record s { calls = one_more s.calls }, (x.1, refl));
  one = λ s f g a b t x y. (comes_one s.calls f g t x.0 y.0, x.1 ∙ sym y.1);
  same = λ s f a x. ap tells_store x.1;
}

syncs_store_decided : IsDecided tells_store SyncsStore
syncs_store_decided = record {
  some = λ s. let x = comes_some s.calls in (x.0, record s { calls = one_more s.calls; syncs = next_call s.syncs }, (x.1, refl));
  one = λ s f g a b t x y. (comes_one s.calls f g t x.0 y.0, x.1 ∙ sym y.1);
  same = λ s f a x. ap tells_store x.1;
}

writes_store_decided : (at : ℕ) (piece : List ℕ) → IsDecided tells_store (WritesStore at piece)
writes_store_decided at piece =
    leaves_decided tells_store AsksStore (stored at piece) (spoiled at (length piece)) asks_decided (λ s. refl) (λ s. refl)

fills_store_decided : (at : ℕ) (block : List ℕ) (n : ℕ) → IsDecided tells_store (FillsStore at block n)
fills_store_decided at block zero = does_decided tells_store unchanged (λ s. refl)
fills_store_decided at block (suc n) =
    then_decided tells_store (WritesStore at block) (FillsStore (at + 512) block n) (writes_store_decided at block) (fills_store_decided (at + 512) block n)

on_store_decided : (C : Call Base) → IsDecided tells_store C → IsDecided tells_below (OnStore C)
on_store_decided C d = record {
  some = λ b. let x = d.some b.store in (x.0, record b { store = x.1 }, (x.1, x.2, refl));
  one = λ b f g a c t x y.
      let e = d.one b.store f g x.0 y.0 t x.1 y.1 in (e.0, x.2 ∙ ap (λ (s : Base). record b { store = s }) e.1 ∙ sym y.2);
  same = λ b f a x. ap tells_below x.2 ∙ d.same b.store f x.0 x.1;
}

stored_decided : (C : Call Base) (at : ℕ) (piece : List ℕ) (n : ℕ) → IsDecided tells_store C
    → IsDecided tells_below (Leaves (OnStore C) (with_piece at piece) (with_lost at n))
stored_decided C at piece n d = leaves_decided tells_below (OnStore C) (with_piece at piece) (with_lost at n) (on_store_decided C d) (λ b. refl) (λ b. refl)

-- ==== write-back

flushes_blocks : (slots : ℕ) (dirty : List Dirty) → IsDecided tells_below (FlushesBlocks slots dirty)
flushes_blocks slots [] = does_decided tells_below unchanged (λ b. refl)
flushes_blocks slots (d ∷ ds) =
    then_decided tells_below (Leaves (OnStore (WritesStore (512 * d.block) d.bytes)) (with_dirty slots ds) unchanged) (FlushesBlocks slots ds)
    (leaves_decided tells_below (OnStore (WritesStore (512 * d.block) d.bytes)) (with_dirty slots ds) unchanged
    (on_store_decided (WritesStore (512 * d.block) d.bytes) (writes_store_decided (512 * d.block) d.bytes)) (λ b. refl) (λ b. refl))
    (flushes_blocks slots ds)

flushes_decided : (slots : ℕ) → IsDecided tells_below (Flushes slots)
flushes_decided slots = record {
  some = λ b. (flushes_blocks slots (dirty_blocks b.layer)).some b;
  one = λ b. (flushes_blocks slots (dirty_blocks b.layer)).one b;
  same = λ b. (flushes_blocks slots (dirty_blocks b.layer)).same b;
}

dirties_decided : (slots first n : ℕ) (piece : List ℕ) → IsDecided tells_below (Dirties slots first n piece)
dirties_decided slots first n piece = record { some = λ b. (at b).some b; one = λ b. (at b).one b; same = λ b. (at b).same b }
  where
    at : (b : Below) → let together = joined_dirty (dirty_blocks b.layer) first n piece in
        IsDecided tells_below (Chosen (nat_le (length together) slots) (Does (with_dirty slots together)) (Then (Flushes slots) (Does (with_dirty slots (dirty_from first n piece)))))
    at b =
        let together = joined_dirty (dirty_blocks b.layer) first n piece in
        let alone = dirty_from first n piece in
        chosen_decided tells_below (nat_le (length together) slots) (Does (with_dirty slots together)) (Then (Flushes slots) (Does (with_dirty slots alone)))
        (does_decided tells_below (with_dirty slots together) (λ c. refl))
        (then_decided tells_below (Flushes slots) (Does (with_dirty slots alone)) (flushes_decided slots) (does_decided tells_below (with_dirty slots alone) (λ c. refl)))

dirties_each : (slots first : ℕ) (block : List ℕ) (n : ℕ) → IsDecided tells_below (DirtiesEach slots first block n)
dirties_each slots first block zero = does_decided tells_below unchanged (λ b. refl)
dirties_each slots first block (suc n) =
    then_decided tells_below (Dirties slots first 1 block) (DirtiesEach slots (first + 1) block n) (dirties_decided slots first 1 block) (dirties_each slots (first + 1) block n)

writes_back : (slots at : ℕ) (piece : List ℕ) → IsDecided tells_below (WritesBack slots at piece)
writes_back slots at piece =
    let n = length piece / 512 in
    let Direct : Call Below = Leaves (OnStore (WritesStore at piece)) (with_piece at piece) (with_lost at (length piece)) in
    chosen_decided tells_below (nat_le n slots) (Then (Dirties slots (at / 512) n piece) (Does (with_piece at piece))) (Then (Flushes slots) Direct)
    (then_decided tells_below (Dirties slots (at / 512) n piece) (Does (with_piece at piece)) (dirties_decided slots (at / 512) n piece) (does_decided tells_below (with_piece at piece) (λ b. refl)))
    (then_decided tells_below (Flushes slots) Direct (flushes_decided slots) (stored_decided (WritesStore at piece) at piece (length piece) (writes_store_decided at piece)))

-- ==== the four calls below

pub reads_decided : (l : Layer) → IsDecided tells_below (ReadsBelow l)
reads_decided memory = does_decided tells_below unchanged (λ b. refl)
reads_decided file = on_store_decided AsksStore asks_decided
reads_decided overlay = on_store_decided AsksStore asks_decided
reads_decided (write_back slots dirty) = on_store_decided AsksStore asks_decided

pub writes_decided : (l : Layer) (at : ℕ) (piece : List ℕ) → IsDecided tells_below (WritesBelow l at piece)
writes_decided memory at piece = does_decided tells_below (with_piece at piece) (λ b. refl)
writes_decided file at piece = stored_decided (WritesStore at piece) at piece (length piece) (writes_store_decided at piece)
writes_decided overlay at piece = does_decided tells_below (with_piece at piece) (λ b. refl)
writes_decided (write_back slots dirty) at piece = writes_back slots at piece

pub fills_decided : (l : Layer) (at : ℕ) (block : List ℕ) (count : ℕ) → IsDecided tells_below (FillsBelow l at block count)
fills_decided memory at block count = does_decided tells_below (with_piece at (repeated count block)) (λ b. refl)
fills_decided file at block count = stored_decided (FillsStore at block count) at (repeated count block) (512 * count) (fills_store_decided at block count)
fills_decided overlay at block count = does_decided tells_below (with_piece at (repeated count block)) (λ b. refl)
fills_decided (write_back slots dirty) at block count =
    leaves_decided tells_below (DirtiesEach slots (at / 512) block count) (with_piece at (repeated count block)) (with_lost at (512 * count))
    (dirties_each slots (at / 512) block count) (λ b. refl) (λ b. refl)

pub syncs_decided : (l : Layer) → IsDecided tells_below (SyncsBelow l)
syncs_decided memory = does_decided tells_below unchanged (λ b. refl)
syncs_decided file = on_store_decided SyncsStore syncs_store_decided
syncs_decided overlay = does_decided tells_below unchanged (λ b. refl)
syncs_decided (write_back slots dirty) = then_decided tells_below (Flushes slots) (OnStore SyncsStore) (flushes_decided slots) (on_store_decided SyncsStore syncs_store_decided)
