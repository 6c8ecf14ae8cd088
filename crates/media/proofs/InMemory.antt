-- What the calls of a medium in memory leave.
use Rattle.std.proofs.Common.{◌∙◌, ◌≡◌, ℕ, ◌+◌, Bool, true, false, List, take, drop, inr, sym, ap, refl, length, Some, slice_get, if◌then◌else◌, ⊎_elim}
use Rattle.std.proofs.lemmas.Bool.{cases_Bool}
use Rattle.tcmu_types.specs.Overwriting.{overwritten}
use Rattle.tcmu_types.specs.Numbered.{next_call}
use Rattle.tcmu_types.proofs.Places.{get_take, get_drop, index_from_get}
use Rattle.tcmu_model.specs.MediumState.{Span, Below, MediumState}
use Rattle.scsi_model.specs.Medium.{in_memory, memory_state, empty_span, span_of, narrowed, covers, blanked, repeated, with_piece, Reads, Writes, Fills, Syncs}

-- nothing is lost of a medium that has lost nothing
narrowed_empty : (s : Span) → narrowed empty_span s ≡ empty_span
narrowed_empty s =
    let F : Bool → Span = λ b. if b then empty_span else empty_span in
    ⊎_elim (λ (e : covers s empty_span ≡ true). ap F e) (λ (e : covers s empty_span ≡ false). ap F e) (cases_Bool (covers s empty_span))

-- so a piece is put among the bytes, and nothing else changes
piece_in_memory : (at : ℕ) (piece xs : List ℕ) → in_memory (overwritten at piece xs) ≡ with_piece at piece (in_memory xs)
piece_in_memory at piece xs =
    let F : Span → Below = λ l. record (in_memory xs) { lost = l; bytes = Some (blanked l (overwritten at piece xs)) } in
    ap F (sym (narrowed_empty (span_of at (length piece))))

reads_memory : (at blocks calls : ℕ) (xs out : List ℕ) → out ≡ take (length out) (drop at xs)
    → Reads at out (memory_state blocks xs calls) false (memory_state blocks xs (next_call calls))
reads_memory at blocks calls xs out e = record {
  made = inr (refl, in_memory xs, (refl, refl), refl);
  told = λ _ i k _. index_from_get out xs i (at + i) (ap (λ ys. slice_get ys i) e ∙ get_take (length out) (drop at xs) i k ∙ get_drop at xs i);
}

writes_memory : (at blocks calls : ℕ) (piece xs : List ℕ)
    → Writes at piece (memory_state blocks xs calls) false (memory_state blocks (overwritten at piece xs) (next_call calls))
writes_memory at blocks calls piece xs = inr (refl, in_memory (overwritten at piece xs), (refl, piece_in_memory at piece xs), refl)

fills_memory : (at count blocks calls : ℕ) (block xs : List ℕ)
    → Fills at block count (memory_state blocks xs calls) false (memory_state blocks (overwritten at (repeated count block) xs) (next_call calls))
fills_memory at count blocks calls block xs =
    let piece = repeated count block in inr (refl, in_memory (overwritten at piece xs), (refl, piece_in_memory at piece xs), refl)

syncs_memory : (blocks calls : ℕ) (xs : List ℕ) → Syncs (memory_state blocks xs calls) false (memory_state blocks xs (next_call calls))
syncs_memory blocks calls xs = inr (refl, in_memory xs, (refl, refl), refl)

-- The same, where the values are known by equations.

pub reads_here : (at blocks calls later : ℕ) (xs out : List ℕ) (m : MediumState) → memory_state blocks xs calls ≡ m → later ≡ next_call calls
    → out ≡ take (length out) (drop at xs) → Reads at out m false (memory_state blocks xs later)
reads_here at blocks calls later xs out m v f e = rw (← v) (rw f (reads_memory at blocks calls xs out e))

pub writes_here : (at blocks calls later : ℕ) (piece xs ys : List ℕ) (m : MediumState) → memory_state blocks xs calls ≡ m → later ≡ next_call calls
    → ys ≡ overwritten at piece xs → Writes at piece m false (memory_state blocks ys later)
writes_here at blocks calls later piece xs ys m v f e = rw (← v) (rw f (rw e (writes_memory at blocks calls piece xs)))

pub fills_here : (at count blocks here calls later : ℕ) (block xs ys : List ℕ) (m : MediumState) → memory_state blocks xs calls ≡ m → here ≡ blocks → later ≡ next_call calls
    → ys ≡ overwritten at (repeated count block) xs → Fills at block count m false (memory_state here ys later)
fills_here at count blocks here calls later block xs ys m v b f e = rw (← v) (rw b (rw f (rw e (fills_memory at count blocks calls block xs))))

pub syncs_here : (blocks calls later : ℕ) (xs : List ℕ) (m : MediumState) → memory_state blocks xs calls ≡ m → later ≡ next_call calls
    → Syncs m false (memory_state blocks xs later)
syncs_here blocks calls later xs m v f = rw (← v) (rw f (syncs_memory blocks calls xs))
