-- What a call of a store leaves of it, as it stands below a medium.
use Rattle.std.proofs.Common.{◌≡◌, ℕ, ◌+◌, ◌/◌, ◌%◌, ◌≤◌, Bool, List, length, ap, refl, Option, Some, None, IfSome, Result, Ok, Err, OnOk, OnErr, is_err, replicate}
use Rattle.std.specs.Option.{option_map}
use Rattle.tcmu_types.specs.Numbered.{ComesOut, one_more, next_call}
use Rattle.tcmu_types.specs.Overwriting.{overwritten}
use Rattle.scsi_model.specs.Base.{without_blocks, with_blocks, stored, spoiled, AsksStore, SyncsStore, WritesStore}
use Rattle.scsi_model.specs.Base.{zeroed}
use Rattle.scsi_model.proofs.Cleared.{cleared_put, cleared_spoiled}
use Rattle.edge.specs.Stores.{StoreState, Puts, Spoils}
use Rattle.handler_trait.specs.OverStore.{base_of}

-- a call that left the bytes and was no sync
pub asked_base : (s after : StoreState) (free : List ℕ) (failed : Bool) → after.bytes ≡ s.bytes → after.size ≡ s.size → after.calls ≡ one_more s.calls → ComesOut s.calls failed
    → after.syncs ≡ s.syncs → AsksStore (base_of s free) failed (base_of after free)
asked_base s after free failed b z c o n = (o, rw (b, z, c, n) refl)

-- a sync
pub synced_base : (s after : StoreState) (free : List ℕ) (failed : Bool) → after.bytes ≡ s.bytes → after.size ≡ s.size → after.calls ≡ one_more s.calls → ComesOut s.calls failed
    → after.syncs ≡ next_call s.syncs → SyncsStore (base_of s free) failed (base_of after free)
synced_base s after free failed b z c o n = (o, rw (b, z, c, n) refl)

same_put : (at n : ℕ) (piece free : List ℕ) (old : Option (List ℕ)) → at % 512 ≡ 0 → length piece % 512 ≡ 0 → IfSome old (λ xs. length xs ≡ n) → at + length piece ≤ n
    → option_map (zeroed (without_blocks (at / 512) (length piece / 512) free)) (option_map (overwritten at piece) old) ≡ option_map (overwritten at piece) (option_map (zeroed free) old)
same_put at n piece free None a b long fits = refl
same_put at n piece free (Some xs) a b long fits = ap (λ (ys : List ℕ). Some ys) (cleared_put at piece free xs a b (rw long fits))

same_spoiled : (at n k : ℕ) (junk free : List ℕ) (old : Option (List ℕ)) → at % 512 ≡ 0 → k % 512 ≡ 0 → length junk ≡ k → IfSome old (λ xs. length xs ≡ n) → at + k ≤ n
    → option_map (zeroed (with_blocks (at / 512) (k / 512) free)) (option_map (overwritten at junk) old) ≡ option_map (overwritten at (replicate k 0)) (option_map (zeroed free) old)
same_spoiled at n k junk free None a b l long fits = refl
same_spoiled at n k junk free (Some xs) a b l long fits = ap (λ (ys : List ℕ). Some ys) (cleared_spoiled at k junk free xs a b l (rw long fits))

-- a write, as it came out
pub written_base : {T E : Type 0} (r : Result T E) (at : ℕ) (piece free later : List ℕ) (s after : StoreState) → at % 512 ≡ 0 → length piece % 512 ≡ 0
    → IfSome s.bytes (λ xs. length xs ≡ s.size) → at + length piece ≤ s.size → after.size ≡ s.size → after.calls ≡ one_more s.calls → ComesOut s.calls (is_err r) → after.syncs ≡ s.syncs
    → OnOk r (later ≡ without_blocks (at / 512) (length piece / 512) free) → OnErr r (later ≡ with_blocks (at / 512) (length piece / 512) free)
    → OnOk r (Puts at piece s.bytes after.bytes) → OnErr r (Spoils at (length piece) s.bytes after.bytes)
    → WritesStore at piece (base_of s free) (is_err r) (base_of after later)
written_base (Ok x) at piece free later s after a b long fits z c o n wrote failed put spoils =
    let here = record (base_of s free) { calls = one_more s.calls } in
    let made : base_of after later ≡ stored at piece here =
    rw (wrote, put, z, c, n) (ap (λ (bytes : Option (List ℕ)). record here { bytes = bytes; free = without_blocks (at / 512) (length piece / 512) free }) (same_put at s.size piece free s.bytes a b long fits)) in
    (here, (o, refl), made)
written_base (Err e) at piece free later s after a b long fits z c o n wrote failed put spoils =
    let here = record (base_of s free) { calls = one_more s.calls } in
    let made : base_of after later ≡ spoiled at (length piece) here =
    rw (failed, spoils.2, z, c, n) (ap (λ (bytes : Option (List ℕ)). record here { bytes = bytes; free = with_blocks (at / 512) (length piece / 512) free }) (same_spoiled at s.size (length piece) spoils.0 free s.bytes a b spoils.1 long fits)) in
    (here, (o, refl), made)
