-- The notes of a ring stay short.
use Rattle.std.proofs.Common.{◌≡◌, ℕ, ◌≤◌, Bool, true, false, cond, eqb, List, [], ◌∷◌, ◌++◌, sym, subst, arith}
use Rattle.tcmu_types.proofs.Everies.{every-append, every-weaker}
use Rattle.tcmu_model.specs.RingState.{Item, Laid, Pad, Cmd, Tmr, RingState, pad, pads, with_item}
use Rattle.ring_path.specs.Rings.{IsShort, NotesShort}

-- an event that lays nothing
pub short_same : (n : ℕ) (laid after : List Item) → after ≡ laid → NotesShort n laid → NotesShort n after
short_same n laid after e h = subst (NotesShort n) (sym e) h

short_pads : (n k : ℕ) → NotesShort n (pads k)
short_pads n k = go (eqb k 0)
  where
    go : (b : Bool) → NotesShort n (cond b [] (record { len = k; laid = Pad } ∷ []))
    go true = tt
    go false = (tt, tt)

pub short_laid : (n : ℕ) (r : RingState) (x : Item) → NotesShort n r.laid → IsShort n x.laid → NotesShort n (with_item r x).laid
short_laid n r x h s =
    let P : Item → Type 0 = λ (y : Item). IsShort n y.laid in
    every-append P (r.laid ++ pads (pad r x.len)) (x ∷ []) (every-append P r.laid (pads (pad r x.len)) h (short_pads n (pad r x.len))) (s, tt)

shorter : (n m : ℕ) (x : Laid) → n ≤ m → IsShort n x → IsShort m x
shorter n m Pad h s = tt
shorter n m (Cmd k c) h s = tt
shorter n m (Tmr k ss) h s = omega arith

pub short_more : (n m : ℕ) (laid : List Item) → n ≤ m → NotesShort n laid → NotesShort m laid
short_more n m laid h s = every-weaker (λ (x : Item). IsShort n x.laid) (λ (x : Item). IsShort m x.laid) laid (λ x k. shorter n m x.laid h k) s
