-- What holds of each item, read at a place.
use Rattle.std.proofs.Common.{◌≡◌, ℕ, ◌+◌, List, [], ◌∷◌, take, slice_get, Some, arith, suc, zero, subst}
use Rattle.std.proofs.lemmas.List.Sums.{sum_by-cons}
use Rattle.tcmu_model.specs.RingState.{Item, lengths}
use Rattle.tcmu_model.specs.Device.{DeviceState}
use Rattle.tcmu_model.specs.Sound.{Along, IsItem, IsSound}

pub along_at : (P : ℕ → Item → Type 0) (start : ℕ) (is : List Item) (i : ℕ) (x : Item) → Along P start is → slice_get is i ≡ Some x → P (start + lengths (take i is)) x
along_at P start [] i x e h = absurd (cc)
along_at P start (y ∷ is) zero x e h =
    let q : y ≡ x = cc in
    let z : start ≡ start + lengths (take zero (y ∷ is)) = omega arith in
    subst (λ (n : ℕ). P n x) z (subst (λ (w : Item). P start w) q e.0)
along_at P start (y ∷ is) (suc i) x e h =
    let l : lengths (y ∷ take i is) ≡ y.len + lengths (take i is) = sum_by-cons (λ (w : Item). w.len) y (take i is) in
    let z : start + y.len + lengths (take i is) ≡ start + lengths (y ∷ take i is) = omega (arith, l) in
    subst (λ (n : ℕ). P n x) z (along_at P (start + y.len) is i x e.1 h)

-- an item stands whole at its place in the ring, with its kind's length
pub item_at : (d : DeviceState) (i : ℕ) (x : Item) → IsSound d → slice_get d.ring.laid i ≡ Some x → IsItem d.settings (lengths (take i d.ring.laid)) x
item_at d i x h e =
    let z : 0 + lengths (take i d.ring.laid) ≡ lengths (take i d.ring.laid) = omega arith in
    subst (λ (n : ℕ). IsItem d.settings n x) z (along_at (IsItem d.settings) 0 d.ring.laid i x h.ring.items e)
