-- What calls of a store leave of a medium over it.
use Rattle.std.proofs.Common.{◌∙◌, ◌≡◌, ℕ, ◌+◌, ◌*◌, ◌≤◌, Bool, true, false, List, length, drop, sym, ap, refl, Option, Some, None, inr, IfSome, slice_get, Result, Ok, Err, OnOk, OnErr, is_err}
use Rattle.std.specs.Option.{option_map}
use Rattle.tcmu_types.specs.Numbered.{ComesOut, one_more, next_call}
use Rattle.tcmu_types.proofs.Places.{get_take, get_drop, index_from_get}
use Rattle.tcmu_model.specs.MediumState.{Span}
use Rattle.scsi_model.specs.Base.{AsksStore, SyncsStore, WritesStore, FillsStore}
use Rattle.scsi_model.specs.Medium.{blanked, repeated, MatchesTold, Reads, Writes, Fills, Syncs, OnStore, with_piece, with_lost}
use Rattle.scsi_model.proofs.LostRange.{Lies, SameOutside, kept_lost, more_lost, lies_same, seen, put_blanked, spoil_blanked}
use Rattle.scsi_model.proofs.FileRuns.{overwritten_outside, fits_in}
use Rattle.edge.specs.Stores.{StoreState, Puts, Spoils, Shows}
use Rattle.handler_trait.specs.OverStore.{base_of}
use Rattle.handler_trait.proofs.Repeating.{length_repeated}
use Rattle.handler_trait.proofs.OverStore.{asked_base, synced_base}
use Rattle.medium_file.specs.FileState.{below_file, file_state}

-- bytes that the store shows are as told, outside of the lost range
shown : (at : ℕ) (lost : Span) (free : List ℕ) (s : StoreState) (out : List ℕ) → IfSome s.bytes (λ xs. length xs ≡ s.size) → Lies lost s.size → Shows s.bytes at out
    → MatchesTold (below_file s lost free) at out
shown at lost free s out long l g = by s.bytes long g
  where
    by : (bytes : Option (List ℕ)) → IfSome bytes (λ xs. length xs ≡ s.size) → Shows bytes at out → MatchesTold (record (below_file s lost free) { bytes = option_map (blanked lost) bytes }) at out
    by None k g = tt
    by (Some xs) k g = λ i less hid.
        index_from_get out (blanked lost xs) i (at + i)
        (ap (λ ys. slice_get ys i) g ∙ get_take (length out) (drop at xs) i less ∙ get_drop at xs i ∙ sym (seen lost xs (lies_same lost s.size (length xs) k l) (at + i) hid))

-- what a call of the store that leaves the bytes leaves below
same_below : (lost : Span) (free : List ℕ) (s after : StoreState) → after.bytes ≡ s.bytes
    → below_file after lost free ≡ record (below_file s lost free) { store = base_of after free }
same_below lost free s after b = ap (λ (bytes : Option (List ℕ)). record (below_file after lost free) { bytes = option_map (blanked lost) bytes }) b

-- such a call: one that is no sync, and a sync
asked : (lost : Span) (free : List ℕ) (s after : StoreState) (failed : Bool) → after.bytes ≡ s.bytes → after.size ≡ s.size → after.calls ≡ one_more s.calls → ComesOut s.calls failed
    → after.syncs ≡ s.syncs → OnStore AsksStore (below_file s lost free) failed (below_file after lost free)
asked lost free s after failed b z c o n = (base_of after free, asked_base s after free failed b z c o n, same_below lost free s after b)

synced : (lost : Span) (free : List ℕ) (s after : StoreState) (failed : Bool) → after.bytes ≡ s.bytes → after.size ≡ s.size → after.calls ≡ one_more s.calls → ComesOut s.calls failed
    → after.syncs ≡ next_call s.syncs → OnStore SyncsStore (below_file s lost free) failed (below_file after lost free)
synced lost free s after failed b z c o n = (base_of after free, synced_base s after free failed b z c o n, same_below lost free s after b)

pub reads_file : (at blocks calls later : ℕ) (lost : Span) (free : List ℕ) (s after : StoreState) (out : List ℕ) (failed : Bool) → later ≡ next_call calls
    → IfSome s.bytes (λ xs. length xs ≡ s.size) → Lies lost s.size
    → after.bytes ≡ s.bytes → after.size ≡ s.size → after.calls ≡ one_more s.calls → ComesOut s.calls failed → after.syncs ≡ s.syncs
    → (failed ≡ false → Shows s.bytes at out)
    → Reads at out (file_state blocks s lost free calls) failed (file_state blocks after lost free later)
reads_file at blocks calls later lost free s after out failed f long l b z n o k given = rw f (record {
  made = inr (refl, below_file after lost free, asked lost free s after failed b z n o k, refl);
  told = λ h. shown at lost free s out long l (given h);
})

pub syncs_file : (blocks calls later : ℕ) (lost : Span) (free : List ℕ) (s after : StoreState) (failed : Bool) → later ≡ next_call calls
    → after.bytes ≡ s.bytes → after.size ≡ s.size → after.calls ≡ one_more s.calls → ComesOut s.calls failed → after.syncs ≡ next_call s.syncs
    → Syncs (file_state blocks s lost free calls) failed (file_state blocks after lost free later)
syncs_file blocks calls later lost free s after failed f b z n o k = rw f (inr (refl, below_file after lost free, synced lost free s after failed b z n o k, refl))

-- what a piece that was put, and one that may be spoiled, leave of what the medium shows
put_below : (at : ℕ) (lost : Span) (free later : List ℕ) (s after : StoreState) (piece : List ℕ)
    → IfSome s.bytes (λ xs. length xs ≡ s.size) → Lies lost s.size → at + length piece ≤ s.size → Puts at piece s.bytes after.bytes
    → below_file after (kept_lost lost at (length piece)) later ≡ with_piece at piece (record (below_file s lost free) { store = base_of after later })
put_below at lost free later s after piece long l fits p =
    ap (λ (bytes : Option (List ℕ)). record (below_file after (kept_lost lost at (length piece)) later) { bytes = bytes })
    (put_blanked at s.size lost piece s.bytes after.bytes long l fits p)

spoils_outside : (at k n : ℕ) (old new : Option (List ℕ)) → IfSome old (λ xs. length xs ≡ n) → at + k ≤ n → Spoils at k old new → SameOutside at k old new
spoils_outside at k n old new long fits p =
    rw p.2 (rw (← p.1) (overwritten_outside at p.0 old (fits_in n (at + length p.0) old long (rw p.1 fits))))

spoiled_below : (at k : ℕ) (lost : Span) (free later : List ℕ) (s after : StoreState)
    → IfSome s.bytes (λ xs. length xs ≡ s.size) → Lies lost s.size → at + k ≤ s.size → Spoils at k s.bytes after.bytes
    → below_file after (more_lost lost at k) later ≡ with_lost at k (record (below_file s lost free) { store = base_of after later })
spoiled_below at k lost free later s after long l fits p =
    ap (λ (bytes : Option (List ℕ)). record (below_file after (more_lost lost at k) later) { bytes = bytes })
    (spoil_blanked at k s.size lost s.bytes after.bytes long l fits (spoils_outside at k s.size s.bytes after.bytes long fits p))

-- a write, as its call came out
pub written_file : {T E : Type 0} (r : Result T E) (at blocks calls later : ℕ) (lost lost' : Span) (free free' : List ℕ) (s after : StoreState) (piece : List ℕ) → later ≡ next_call calls
    → IfSome s.bytes (λ xs. length xs ≡ s.size) → Lies lost s.size → at + length piece ≤ s.size
    → OnOk r (lost' ≡ kept_lost lost at (length piece)) → OnErr r (lost' ≡ more_lost lost at (length piece))
    → WritesStore at piece (base_of s free) (is_err r) (base_of after free') → OnOk r (Puts at piece s.bytes after.bytes) → OnErr r (Spoils at (length piece) s.bytes after.bytes)
    → Writes at piece (file_state blocks s lost free calls) (is_err r) (file_state blocks after lost' free' later)
written_file (Ok x) at blocks calls later lost lost' free free' s after piece f long l fits kept more w put spoiled =
    let here = record (below_file s lost free) { store = base_of after free' } in
    rw (f, kept) (inr (refl, below_file after (kept_lost lost at (length piece)) free', (here, (base_of after free', w, refl), put_below at lost free free' s after piece long l fits put), refl))
written_file (Err e) at blocks calls later lost lost' free free' s after piece f long l fits kept more w put spoiled =
    let here = record (below_file s lost free) { store = base_of after free' } in
    rw (f, more) (inr (refl, below_file after (more_lost lost at (length piece)) free', (here, (base_of after free', w, refl), spoiled_below at (length piece) lost free free' s after long l fits spoiled), refl))

-- a fill, as its calls came out
pub filled_file : {T E : Type 0} (r : Result T E) (at count blocks calls later : ℕ) (lost lost' : Span) (free free' : List ℕ) (s after : StoreState) (block : List ℕ) → later ≡ next_call calls
    → IfSome s.bytes (λ xs. length xs ≡ s.size) → Lies lost s.size → at + 512 * count ≤ s.size → length block ≡ 512
    → OnOk r (lost' ≡ kept_lost lost at (512 * count)) → OnErr r (lost' ≡ more_lost lost at (512 * count))
    → FillsStore at block count (base_of s free) (is_err r) (base_of after free') → OnOk r (Puts at (repeated count block) s.bytes after.bytes) → OnErr r (Spoils at (512 * count) s.bytes after.bytes)
    → Fills at block count (file_state blocks s lost free calls) (is_err r) (file_state blocks after lost' free' later)
filled_file (Ok x) at count blocks calls later lost lost' free free' s after block f long l fits e kept more w put spoiled =
    let piece = repeated count block in
    let n : length piece ≡ 512 * count = length_repeated count block e in
    let here = record (below_file s lost free) { store = base_of after free' } in
    let k : lost' ≡ kept_lost lost at (length piece) = kept ∙ ap (kept_lost lost at) (sym n) in
    rw (f, k) (inr (refl, below_file after (kept_lost lost at (length piece)) free', (here, (base_of after free', w, refl), put_below at lost free free' s after piece long l (rw n fits) put), refl))
filled_file (Err x) at count blocks calls later lost lost' free free' s after block f long l fits e kept more w put spoiled =
    let here = record (below_file s lost free) { store = base_of after free' } in
    rw (f, more) (inr (refl, below_file after (more_lost lost at (512 * count)) free', (here, (base_of after free', w, refl), spoiled_below at (512 * count) lost free free' s after long l fits spoiled), refl))

pub on_ok : {T E : Type 0} (r : Result T E) (P : Type 0) → OnOk r P → is_err r ≡ false → P
on_ok (Ok x) P p h = p
on_ok (Err e) P p h = let t : true ≡ false = h in absurd (cc)
