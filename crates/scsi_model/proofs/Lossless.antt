-- Lossless media: those in memory, and those in a file whose store lists no failing call.
use Rattle.std.proofs.Common.{◌∙◌, ◌≡◌, ◌⊎◌, inl, inr, ℕ, zero, suc, ◌+◌, ◌*◌, Bool, true, false, List, [], ◌∷◌, length, sym, ap, subst, refl, Option, Some, IfSome, if◌then◌else◌}
use Rattle.std.specs.Bool.{MatchBool}
use Rattle.tcmu_types.specs.Numbered.{is_listed}
use Rattle.tcmu_model.specs.MediumState.{Span, Layer, memory, file, Base, Below, MediumState}
use Rattle.scsi_model.specs.Calls.{Call, unchanged, Does, Leaves}
use Rattle.scsi_model.specs.Base.{stored, spoiled, AsksStore, SyncsStore, WritesStore, FillsStore}
use Rattle.scsi_model.specs.Medium.{empty_span, span_of, covers, narrowed, repeated, with_piece, with_lost, OnStore, ReadsBelow, WritesBelow, FillsBelow, SyncsBelow, MakesCall, counted}
use Rattle.scsi_model.specs.Runs.{MediumCall, read, write, fill, sync, CallMakes, MadeCall, Runs, IsLossless, RunsStayLossless}
use Rattle.scsi_model.proofs.Decided.{true_false}

nothing_narrowed : (lost s : Span) → lost ≡ empty_span → narrowed lost s ≡ empty_span
nothing_narrowed lost s e = go (covers s lost)
  where
    go : (c : Bool) → (if c then empty_span else lost) ≡ empty_span
    go true = refl
    go false = e

-- ==== a store that lists no failing call

abbrev ListsNone : Base → Type 0
ListsNone s = s.calls.fails ≡ Some []

-- no call of it fails, and it goes on so
abbrev Unfailing : Call Base → Type 0
Unfailing C = (s : Base) (f : Bool) (t : Base) → ListsNone s → C s f t → (f ≡ false) × ListsNone t

asks_unfailing : Unfailing AsksStore
asks_unfailing s f t e x = (subst (λ (o : Option (List ℕ)). IfSome o (λ fs. f ≡ is_listed fs s.calls.calls)) e x.0, ap (λ (k : Base). k.calls.fails) x.1 ∙ e)

syncs_unfailing : Unfailing SyncsStore
syncs_unfailing s f t e x = (subst (λ (o : Option (List ℕ)). IfSome o (λ fs. f ≡ is_listed fs s.calls.calls)) e x.0, ap (λ (k : Base). k.calls.fails) x.1 ∙ e)

writes_unfailing : (at : ℕ) (piece : List ℕ) → Unfailing (WritesStore at piece)
writes_unfailing at piece s f t e x =
    let y = asks_unfailing s f x.0 e x.1 in (y.0, ap (λ (k : Base). k.calls.fails) x.2 ∙ by f x.0 ∙ y.1)
  where
    by : (f : Bool) (k : Base) → (if f then spoiled at (length piece) k else stored at piece k).calls.fails ≡ k.calls.fails
    by true k = refl
    by false k = refl

fills_unfailing : (at : ℕ) (block : List ℕ) (n : ℕ) → Unfailing (FillsStore at block n)
fills_unfailing at block zero s f t e x = (x.0, ap (λ (k : Base). k.calls.fails) x.1 ∙ e)
fills_unfailing at block (suc n) s f t e x =
    let y = writes_unfailing at block s x.0 x.1 e x.2 in by x.0 x.1 y x.3 (λ k. fills_unfailing (at + 512) block n k f t)
  where
    by : (broke : Bool) (k : Base) → (broke ≡ false) × ListsNone k → MatchBool broke ((f ≡ true) × (t ≡ k)) (FillsStore (at + 512) block n k f t)
        → ((k : Base) → ListsNone k → FillsStore (at + 512) block n k f t → (f ≡ false) × ListsNone t) → (f ≡ false) × ListsNone t
    by true k y more others = true_false y.0
    by false k y more others = others k y.1 more

-- ==== below

-- in memory, and in such a file
record IsWhole (b : Below) : Type 0 where
  pub layer : b.layer ≡ memory
  pub lost : b.lost ≡ empty_span

record IsSafe (b : Below) : Type 0 where
  pub layer : b.layer ≡ file
  pub fails : ListsNone b.store
  pub lost : b.lost ≡ empty_span

whole_unchanged : (b : Below) (f : Bool) (a : Below) → IsWhole b → Does unchanged b f a → IsWhole a
whole_unchanged b f a w x = subst IsWhole (sym x.1) w

whole_piece : (at : ℕ) (piece : List ℕ) (b : Below) (f : Bool) (a : Below) → IsWhole b → Does (with_piece at piece) b f a → IsWhole a
whole_piece at piece b f a w x = subst IsWhole (sym x.1) (record { layer = w.layer; lost = nothing_narrowed b.lost (span_of at (length piece)) w.lost })

safe_store : (C : Call Base) → Unfailing C → (b : Below) (f : Bool) (a : Below) → IsSafe b → OnStore C b f a → (f ≡ false) × IsSafe a
safe_store C u b f a w x =
    let y = u b.store f x.0 w.fails x.1 in (y.0, subst IsSafe (sym x.2) (record { layer = w.layer; fails = y.1; lost = w.lost }))

safe_stored : (C : Call Base) → Unfailing C → (at : ℕ) (piece : List ℕ) (n : ℕ) (b : Below) (f : Bool) (a : Below) → IsSafe b
    → Leaves (OnStore C) (with_piece at piece) (with_lost at n) b f a → IsSafe a
safe_stored C u at piece n b f a w x =
    let made = safe_store C u b f x.0 w x.1 in
    let left : a ≡ with_piece at piece x.0 = x.2 ∙ ap (λ g. if g then with_lost at n x.0 else with_piece at piece x.0) made.0 in
    subst IsSafe (sym left) (record { layer = made.1.layer; fails = made.1.fails; lost = nothing_narrowed x.0.lost (span_of at (length piece)) made.1.lost })

-- ==== a call of a medium

made_lossless : (C : Layer → Call Below) (m : MediumState) (f : Bool) (a : MediumState)
    → ((b : Below) → IsWhole m.below → C memory m.below f b → IsWhole b) → ((b : Below) → IsSafe m.below → C file m.below f b → IsSafe b)
    → IsLossless m → MakesCall (C m.below.layer) m f a → IsLossless a
made_lossless C m f a whole safe l (inl x) = rw x.2 (record { place = l.place; lost = l.lost })
made_lossless C m f a whole safe l (inr x) = rw x.3 (by l.place)
  where
    by : (m.below.layer ≡ memory) ⊎ ((m.below.layer ≡ file) × ListsNone m.below.store) → IsLossless (record (counted m) { below = x.1 })
    by (inl e) =
        let w = whole x.1 (record { layer = e; lost = l.lost }) (subst (λ (k : Layer). C k m.below f x.1) e x.2) in
        record { place = inl w.layer; lost = w.lost }
    by (inr e) =
        let w = safe x.1 (record { layer = e.0; fails = e.1; lost = l.lost }) (subst (λ (k : Layer). C k m.below f x.1) e.0 x.2) in
        record { place = inr (w.layer, w.fails); lost = w.lost }

call_lossless : (c : MediumCall) (m : MediumState) (f : Bool) (a : MediumState) → IsLossless m → CallMakes c m f a → IsLossless a
call_lossless (read at out) m f a l x =
    made_lossless ReadsBelow m f a (λ b w y. whole_unchanged m.below f b w y) (λ b w y. (safe_store AsksStore asks_unfailing m.below f b w y).1) l x.made
call_lossless (write at piece) m f a l x =
    made_lossless (λ k. WritesBelow k at piece) m f a (λ b w y. whole_piece at piece m.below f b w y)
    (λ b w y. safe_stored (WritesStore at piece) (writes_unfailing at piece) at piece (length piece) m.below f b w y) l x
call_lossless (fill at block count) m f a l x =
    made_lossless (λ k. FillsBelow k at block count) m f a (λ b w y. whole_piece at (repeated count block) m.below f b w y)
    (λ b w y. safe_stored (FillsStore at block count) (fills_unfailing at block count) at (repeated count block) (512 * count) m.below f b w y) l x
call_lossless sync m f a l x =
    made_lossless SyncsBelow m f a (λ b w y. whole_unchanged m.below f b w y) (λ b w y. (safe_store SyncsStore syncs_unfailing m.below f b w y).1) l x

lossless_along : (calls : List MadeCall) (m after : MediumState) → Runs calls m after → IsLossless m → IsLossless after
lossless_along [] m after e l = rw e l
lossless_along (c ∷ cs) m after r l = lossless_along cs r.0 after r.3 (call_lossless c.call m c.failed r.0 l r.2)

pub runs_stay_lossless : RunsStayLossless
runs_stay_lossless m after r l = lossless_along r.0 m after r.1 l
