-- Lists of calls of a ring, beside what they mean for the ring's state.
use Rattle.std.specs.Prelude.{◌≡◌, ℕ, ◌+◌, ◌%◌, ◌≤◌, List, [], ◌∷◌, length, take, drop, IsTrue}
use Rattle.tcmu_model.specs.RingState.{RingState, Item, lengths, empty_ring, with_item}
use Rattle.tcmu_model.specs.RingState as ring
use Rattle.cmd_ring.specs.Places.{RingPlaces, IsItemLength, opened, placed, advanced, places_of}
use Rattle.cmd_ring.specs.Places as places

-- an item is laid, the so many oldest items that are not cleared are cleared (padding is an item of its own), or all is forgotten
pub data RingCall : Type 0 where
  Lay : Item → RingCall
  Clear : ℕ → RingCall
  Reset : RingCall

abbrev pub ring_after : RingState → RingCall → RingState
ring_after r (Lay i) = with_item r i
ring_after r (Clear k) = record r { cleared = r.cleared + k }
ring_after r Reset = empty_ring r.size

-- the length of the k oldest items that are not cleared
abbrev pub oldest : RingState → ℕ → ℕ
oldest r k = lengths (take k (drop r.cleared r.laid))

-- what `place`, `advance_clean` and `reset` make of the numbers
abbrev pub places_after : RingPlaces → RingState → RingCall → RingPlaces
places_after p r (Lay i) = placed p i.len
places_after p r (Clear k) = advanced p (oldest r k)
places_after p r Reset = opened p.size

-- an item is laid where it fits, and what is cleared is there
abbrev pub IsAllowed : RingState → RingCall → Type 0
IsAllowed r (Lay i) = IsItemLength r.size i.len × IsTrue (ring.fits r i.len)
IsAllowed r (Clear k) = r.cleared + k ≤ length r.laid
IsAllowed r Reset = Unit {0}

abbrev pub AllAllowed : RingState → List RingCall → Type 0
AllAllowed r [] = Unit {0}
AllAllowed r (c ∷ cs) = IsAllowed r c × AllAllowed (ring_after r c) cs

-- the conditions of `place` and of `advance_clean`
abbrev pub IsMet : RingPlaces → RingState → RingCall → Type 0
IsMet p r (Lay i) = IsItemLength p.size i.len × IsTrue (places.fits p i.len)
IsMet p r (Clear k) = (oldest r k ≤ p.used) × (oldest r k % 8 ≡ 0)
IsMet p r Reset = Unit {0}

-- before each call its conditions are met, and before and after each the numbers are the ring state's
abbrev pub Follows : RingPlaces → RingState → List RingCall → Type 0
Follows p r [] = p ≡ places_of r
Follows p r (c ∷ cs) = (p ≡ places_of r) × IsMet p r c × Follows (places_after p r c) (ring_after r c) cs
