-- The record of the ring beside the ring's numbers.
use Rattle.std.proofs.Common.{◌≡◌, ◌≢◌, ℕ, ◌+◌, ◌-◌, ◌%◌, ◌<◌, ◌≤◌, ltb, eqb, cond, true, false, List, [], ◌∷◌, ◌++◌, Some, None, take, refl, sym, ap, ◌∙◌, arith, ⊎_elim}
use Rattle.std.specs.List.{slice_get, sum_by}
use Rattle.std.specs.Option.{option_map}
use Rattle.std.proofs.lemmas.Bool.{cases_Bool, eqb-true, ne_eqb}
use Rattle.std.proofs.Math.Nat.{mod-eq_of_lt, mod_self}
use Rattle.std.proofs.lemmas.List.Sums.{sum_by-cons, sum_by-append}
use Rattle.tcmu_types.specs.Lists.{Every}
use Rattle.tcmu_types.specs.declared.dump.ItemKind.{ItemKind}
use Rattle.tcmu_types.specs.declared.dump.ItemKind.TheVariants as kind
use Rattle.tcmu_types.proofs.Everies.{every-append}
use Rattle.cmd_ring.specs.declared.ring.Place.{Place}
use Rattle.cmd_ring.specs.Places.{IsRing, RingPlaces, place_of}
use Rattle.region_model.specs.Sides.{Recorded}
use Rattle.region_model.specs.TargetSteps.{pads_of}
use Rattle.target_side.specs.RingRecord.{KeepsItems, RingRecord, head_of, item_at, place_in_record}
use Rattle.target_side.specs.declared.item.RingItem.{RingItem}

-- an item comes to lie at the head, or, behind padding, at the ring's start
pub place_same : (size hd n : ℕ) → hd < size → let pad : ℕ = cond (ltb (size - hd) n) (size - hd) 0 in cond (eqb pad 0) hd 0 ≡ (hd + pad) % size
place_same size hd n l =
    ⊎_elim
    (λ (z : ltb (size - hd) n ≡ true).
    let q : hd + (size - hd) ≡ size = omega (arith, l) in
    let some : eqb (size - hd) 0 ≡ false = ne_eqb (size - hd) 0 (λ e. absurd (omega (arith, l, e))) in
    rw z (rw some (sym (ap (λ k. k % size) q ∙ mod_self size))))
    (λ (z : ltb (size - hd) n ≡ false). rw z (sym (ap (λ k. k % size) (right hd) ∙ mod-eq_of_lt l)))
    (cases_Bool (ltb (size - hd) n))
  where
    right : (k : ℕ) → k + 0 ≡ k
    right k = omega arith

-- the ring's numbers, by the items
abbrev pub recorded_of : RingPlaces → List Recorded → RingRecord
recorded_of ring items = record { size = ring.size; cleaned = ring.cleaned; items = items }

pub place_recorded : (ring : RingPlaces) (items : List Recorded) (n : ℕ) → IsRing ring → KeepsItems ring items → place_of ring n ≡ place_in_record (recorded_of ring items) n
place_recorded ring items n r k =
    let hd : ring.head ≡ head_of (recorded_of ring items) = r.head_behind ∙ ap (λ u. (ring.cleaned + u) % ring.size) k.used in
    let low : head_of (recorded_of ring items) < ring.size = mod_lt (ring.cleaned + sum_by (λ (x : Recorded). x.len) items) ring.size (let l = r.ring_size.least in omega (arith, l)) in
    ap (at_head ring.size n) hd ∙ ap (λ a. record (at_head ring.size n (head_of (recorded_of ring items))) { at = a }) (place_same ring.size (head_of (recorded_of ring items)) n low)
  where
    pads : ℕ → ℕ → ℕ → ℕ
    pads size n h = cond (ltb (size - h) n) (size - h) 0

    at_head : ℕ → ℕ → ℕ → Place
    at_head size n h = record { pad = cond (eqb (pads size n h) 0) None (Some (pads size n h)); pad_at = h; at = cond (eqb (pads size n h) 0) h 0 }

    mod_lt : (m n : ℕ) → 0 < n → m % n < n
    mod_lt m n h = omega arith

pub pads_some : (n : ℕ) → n ≢ 0 → pads_of n ≡ record { kind = kind.Pad; len = n } ∷ []
pads_some n h = rw (ne_eqb n 0 h) refl

pub pads_none : (n : ℕ) → n ≡ 0 → pads_of n ≡ []
pads_none n h = rw h refl

sum_pads : (n : ℕ) → sum_by (λ (x : Recorded). x.len) (pads_of n) ≡ n
sum_pads n =
    ⊎_elim
    (λ (z : eqb n 0 ≡ true). rw z (sym (eqb-true n 0 z)))
    (λ (z : eqb n 0 ≡ false). rw z (sum_by-cons (λ (x : Recorded). x.len) (record { kind = kind.Pad; len = n }) [] ∙ (let q : n + 0 ≡ n = omega arith in q)))
    (cases_Bool (eqb n 0))

pads_even : (n : ℕ) → n % 8 ≡ 0 → Every (λ (x : Recorded). x.len % 8 ≡ 0) (pads_of n)
pads_even n h =
    ⊎_elim
    (λ (z : eqb n 0 ≡ true). rw z tt)
    (λ (z : eqb n 0 ≡ false). rw z (h, tt))
    (cases_Bool (eqb n 0))

-- an item more, with padding before it
pub keeps_laid : (ring after : RingPlaces) (items : List Recorded) (pad : ℕ) (k : ItemKind) (n : ℕ) → KeepsItems ring items → after.used ≡ ring.used + (pad + n) → pad % 8 ≡ 0 → n % 8 ≡ 0 →
    KeepsItems after (items ++ pads_of pad ++ record { kind = k; len = n } ∷ [])
keeps_laid ring after items pad k n h u p e =
    let item : Recorded = record { kind = k; len = n } in
    let ps : List Recorded = pads_of pad in
    let a : sum_by (λ (x : Recorded). x.len) (items ++ ps ++ item ∷ []) ≡ sum_by (λ (x : Recorded). x.len) (items ++ ps) + sum_by (λ (x : Recorded). x.len) (item ∷ []) = sum_by-append (λ (x : Recorded). x.len) (items ++ ps) (item ∷ []) in
    let b : sum_by (λ (x : Recorded). x.len) (items ++ ps) ≡ sum_by (λ (x : Recorded). x.len) items + sum_by (λ (x : Recorded). x.len) ps = sum_by-append (λ (x : Recorded). x.len) items ps in
    let c : sum_by (λ (x : Recorded). x.len) (item ∷ []) ≡ n + 0 = sum_by-cons (λ (x : Recorded). x.len) item [] in
    let used = h.used in
    record {
      used = omega (arith, a, b, c, sum_pads pad, used, u);
      words = every-append (λ (x : Recorded). x.len % 8 ≡ 0) (items ++ ps) (item ∷ []) (every-append (λ (x : Recorded). x.len % 8 ≡ 0) items ps h.words (pads_even pad p)) (e, tt);
    }

-- the first item less
pub keeps_passed : (ring after : RingPlaces) (x : Recorded) (xs : List Recorded) → KeepsItems ring (x ∷ xs) → after.used ≡ ring.used - x.len → KeepsItems after xs
keeps_passed ring after x xs h u =
    let used = h.used in
    let s = sum_by-cons (λ (y : Recorded). y.len) x xs in
    record { used = omega (arith, used, s, u); words = h.words.1 }

pub first_within : (ring : RingPlaces) (x : Recorded) (xs : List Recorded) → KeepsItems ring (x ∷ xs) → x.len ≤ ring.used
first_within ring x xs h =
    let used = h.used in
    let s = sum_by-cons (λ (y : Recorded). y.len) x xs in
    omega (arith, used, s)

-- an item that is found, with the place where it begins
pub item_found : (p : RingRecord) (index at_ len : ℕ) (k : ItemKind) (x : Recorded) → slice_get p.items index ≡ Some x → at_ ≡ (p.cleaned + sum_by (λ (y : Recorded). y.len) (take index p.items)) % p.size → k ≡ x.kind → len ≡ x.len →
    Some (record { at = at_; kind = k; len = len }) ≡ item_at p index
item_found p index at_ len k x there a b c =
    let place : ℕ = (p.cleaned + sum_by (λ (y : Recorded). y.len) (take index p.items)) % p.size in
    let found : Recorded → RingItem = λ y. record { at = place; kind = y.kind; len = y.len } in
    ap (λ n. Some (of n k len)) a ∙ (ap (λ z. Some (of place z len)) b ∙ (ap (λ n. Some (of place x.kind n)) c ∙ sym (ap (option_map found) there)))
  where
    of : ℕ → ItemKind → ℕ → RingItem
    of n z l = record { at = n; kind = z; len = l }
