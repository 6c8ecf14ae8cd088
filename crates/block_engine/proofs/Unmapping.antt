-- Block descriptors, one after the other.
use Rattle.std.proofs.Common.{◌≡◌, ◌≢◌, ℕ, zero, suc, ◌+◌, ◌-◌, ◌*◌, ◌<◌, ◌==◌, Bool, false, List, [], ◌∷◌, ◌++◌, ap, sym, subst, ◌∙◌, arith, append_assoc, replicate}
use Rattle.byteorder.specs.Endian.{big_from}
use Rattle.scsi_model.specs.declared.op.Extent.{Extent}
use Rattle.tcmu_model.specs.MediumState.{MediumState}
use Rattle.scsi_model.specs.Medium.{Fills}
use Rattle.scsi_model.specs.Scsi.{extents_from, UnmapsOne, Unmaps}

abbrev pub extent_at : ℕ → List ℕ → Extent
extent_at at bytes = record { lba = big_from at 8 bytes; count = big_from (at + 8) 4 bytes }

-- the first of some descriptors, and those behind it
pub extents_first : (at n : ℕ) (bytes : List ℕ) → 0 < n → extents_from at n bytes ≡ extent_at at bytes ∷ extents_from (at + 16) (n - 1) bytes
extents_first at zero bytes h = absurd (omega arith)
extents_first at (suc n) bytes h = let e : n ≡ suc n - 1 = omega arith in ap (λ k. extent_at at bytes ∷ extents_from (at + 16) k bytes) e

-- one more descriptor of a list is read
pub extents_more : (k n : ℕ) (list all : List Extent) (bytes : List ℕ) → k < n → list ++ extents_from (8 + 16 * k) (n - k) bytes ≡ all
    → (list ++ extent_at (8 + 16 * k) bytes ∷ []) ++ extents_from (8 + 16 * (k + 1)) (n - (k + 1)) bytes ≡ all
extents_more k n list all bytes h e =
    let at : 8 + 16 * (k + 1) ≡ 8 + 16 * k + 16 = omega arith in
    let left : n - (k + 1) ≡ n - k - 1 = omega arith in
    rw at (rw left (append_assoc list (extent_at (8 + 16 * k) bytes ∷ []) (extents_from (8 + 16 * k + 16) (n - k - 1) bytes)
    ∙ ap (λ es. list ++ es) (sym (extents_first (8 + 16 * k) (n - k) bytes (omega (arith, h)))) ∙ e))

pub extents_pushed : (k n lba count : ℕ) (list new all : List Extent) (bytes : List ℕ) → k < n → lba ≡ big_from (8 + 16 * k) 8 bytes
    → count ≡ big_from (8 + 16 * k + 8) 4 bytes → new ≡ list ++ record { lba = lba; count = count } ∷ []
    → list ++ extents_from (8 + 16 * k) (n - k) bytes ≡ all → new ++ extents_from (8 + 16 * (k + 1)) (n - (k + 1)) bytes ≡ all
extents_pushed k n lba count list new all bytes h a b p e = rw p (rw a (rw b (extents_more k n list all bytes h e)))

-- a range that has blocks is filled
pub unmaps_filled : (e : Extent) (count : ℕ) (m after : MediumState) (failed : Bool) → e.count ≢ 0 → count ≡ e.count
    → Fills (512 * e.lba) (replicate 512 0) count m failed after → UnmapsOne e m failed after
unmaps_filled e count m after failed h c fills =
    let some : (e.count == 0) ≡ false = grind (arith, h) in
    let here : Fills (512 * e.lba) (replicate 512 0) e.count m failed after = subst (λ k. Fills (512 * e.lba) (replicate 512 0) k m failed after) c fills in
    rw some here

-- what is known of the rest of a list, and goes on for all of it
abbrev pub UnmapsOn : List Extent → MediumState → List Extent → MediumState → Type 0
UnmapsOn all start rest m = (failed : Bool) (end : MediumState) → Unmaps rest m failed end → Unmaps all start failed end
