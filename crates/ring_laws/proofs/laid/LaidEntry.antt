-- An item is laid in a ring that represents a device.
use Rattle.std.proofs.Common.{◌≡◌, ◌≢◌, ℕ, ◌+◌, ◌-◌, ◌*◌, ◌/◌, ◌%◌, ◌≤◌, ◌<◌, ◌⊎◌, inl, inr, true, false, List, length, take, refl, sym, ap, ◌∙◌, arith, ⊎_elim, eqb, ltb}
use Rattle.std.proofs.Math.Nat.{add-mul-mod_self_left}
use Rattle.std.proofs.lemmas.Bool.{cases_Bool, eqb-false, ltb-true, ltb-false, ne_eqb}
use Rattle.tcmu_model.specs.RingState.{RingState, Item, Laid, lengths, head, used, free, need, pads, with_item, commands_in, is_command}
use Rattle.tcmu_model.specs.RingState as ring
use Rattle.tcmu_model.specs.Device.{Unfinished, DeviceState}
use Rattle.region_model.specs.Layout.{ring_start, data_start, head_place, pad_bytes}
use Rattle.tcmu_types.specs.ByteFields.{le, put}
use Rattle.region_model.specs.TargetSteps.{with_pad}
use Rattle.ring_laws.proofs.Bytes.{part, take-written, part-written, part-written_before, part-written_behind}
use Rattle.ring_laws.proofs.Layouts.{take-written_inside}
use Rattle.tcmu_types.proofs.ByteFields.{length-le, length-put}
use Rattle.ring_laws.specs.Placed.{HoldsItems}
use Rattle.tcmu_model.proofs.Laying.{times_eight}
use Rattle.region_model.proofs.PartLengths.{length-pad}

-- the device with an item laid
abbrev pub laid_in : DeviceState → Item → List Unfinished → DeviceState
laid_in d it us = record d { ring = with_item d.ring it; unfinished = us }

-- an entry written behind the head, and the head moved
abbrev pub entered : List ℕ → ℕ → ℕ → ℕ → ℕ → List ℕ → List ℕ
entered front head pad at head' bytes = put (put (with_pad front head pad) (ring_start + at) bytes) head_place (le 4 head')

pub part-written_apart : (xs : List ℕ) (at : ℕ) (ys : List ℕ) (p n : ℕ) → (p + n ≤ at) ⊎ (at + length ys ≤ p) → at ≤ length xs → part (put xs at ys) p n ≡ part xs p n
part-written_apart xs at ys p n h l = ⊎_elim (λ (k : p + n ≤ at). part-written_before xs at ys p n k l) (λ (k : at + length ys ≤ p). part-written_behind xs at ys p n k l) h

-- ==== the room behind the head

pad_cases : (r : RingState) (n : ℕ) → head r < r.size → ((ring.pad r n ≡ 0) × (head r + n ≤ r.size)) ⊎ ((ring.pad r n ≡ r.size - head r) × (r.size - head r < n))
pad_cases r n h =
    ⊎_elim
    (λ (e : ltb (r.size - head r) n ≡ true). let k : r.size - head r < n = ltb-true _ _ e in inr (rw e refl, k))
    (λ (e : ltb (r.size - head r) n ≡ false). let k : n ≤ r.size - head r = ltb-false _ _ e in inl (rw e refl, omega arith))
    (cases_Bool (ltb (r.size - head r) n))

-- what is left of a ring of whole eights behind whole eights
eights_left : (s l p : ℕ) → s % 8 ≡ 0 → l % 8 ≡ 0 → 0 < s → p ≡ s - l % s → p ≢ 0 → 8 ≤ p
eights_left s l p e f z k n =
    let t : s * (l / s) ≡ 8 * (s / 8 * (l / s)) = times_eight s (s / 8) (l / s) (omega arith) in
    let d : s * (l / s) + l % s ≡ l = omega arith in
    omega (arith, t, d, e, f, k, n)

eights_even : (s l p : ℕ) → s % 8 ≡ 0 → l % 8 ≡ 0 → p ≡ s - l % s → p % 8 ≡ 0
eights_even s l p e f k =
    let t : s * (l / s) ≡ 8 * (s / 8 * (l / s)) = times_eight s (s / 8) (l / s) (omega arith) in
    let d : s * (l / s) + l % s ≡ l = omega arith in
    omega (arith, t, d, e, f, k)

-- the pad fills the ring up to its end, and what follows begins where it fits
pub record Room (r : RingState) (n : ℕ) : Type 0 where
  pub pad : head r + ring.pad r n ≤ r.size
  pub whole : (lengths r.laid + ring.pad r n) % r.size + n ≤ r.size
  pub least : ring.pad r n ≢ 0 → 8 ≤ ring.pad r n
  pub even : ring.pad r n % 8 ≡ 0

pub has_room : (r : RingState) (n : ℕ) → HoldsItems r → n ≤ r.size → Room r n
has_room r n h small =
    let hd : head r < r.size = let s : 4096 ≤ r.size = h.size in omega arith in
    ⊎_elim
    (λ (c : (ring.pad r n ≡ 0) × (head r + n ≤ r.size)).
    let z : ring.pad r n ≡ 0 = c.0 in
    let k : head r + n ≤ r.size = c.1 in
    let e : lengths r.laid + ring.pad r n ≡ lengths r.laid = omega arith in
    let f : (lengths r.laid + ring.pad r n) % r.size ≡ head r = ap (λ t. t % r.size) e in
    record { pad = omega arith; whole = omega arith; least = λ q. absurd (q z); even = omega arith })
    (λ (c : (ring.pad r n ≡ r.size - head r) × (r.size - head r < n)).
    let z : ring.pad r n ≡ r.size - head r = c.0 in
    let e : lengths r.laid + ring.pad r n ≡ 0 + r.size * (lengths r.laid / r.size + 1) = omega arith in
    let f : (lengths r.laid + ring.pad r n) % r.size ≡ 0 % r.size = ap (λ t. t % r.size) e ∙ add-mul-mod_self_left 0 r.size (lengths r.laid / r.size + 1) in
    let g : 0 % r.size ≡ 0 = let s : 4096 ≤ r.size = h.size in omega arith in
    let ev : r.size % 8 ≡ 0 = h.even in
    let al : lengths r.laid % 8 ≡ 0 = h.aligned in
    record { pad = omega arith; whole = omega arith; least = λ q. eights_left r.size (lengths r.laid) (ring.pad r n) h.even h.aligned (let s : 4096 ≤ r.size = h.size in omega arith) z q; even = eights_even r.size (lengths r.laid) (ring.pad r n) h.even h.aligned z })
    (pad_cases r n hd)

-- ==== what is put behind the head leaves the items that are not cleared

padded_part : (front : List ℕ) (size hd pad p n : ℕ) → length front ≡ data_start size → (pad ≢ 0 → 8 ≤ pad) → hd + pad ≤ size → (pad ≢ 0 → (p + n ≤ hd) ⊎ (hd + pad ≤ p)) →
    (part (with_pad front hd pad) (ring_start + p) n ≡ part front (ring_start + p) n) × (length (with_pad front hd pad) ≡ length front)
padded_part front size hd pad p n l least room apart =
    ⊎_elim
    (λ (z : eqb pad 0 ≡ true). rw z (refl, refl))
    (λ (z : eqb pad 0 ≡ false).
    let some : pad ≢ 0 = eqb-false pad 0 z in
    let lp : length (pad_bytes pad) ≡ pad = length-pad pad (least some) in
    rw z (
      part-written_apart front (ring_start + hd) (pad_bytes pad) (ring_start + p) n
          (⊎_elim (λ (k : p + n ≤ hd). inl (omega arith)) (λ (k : hd + pad ≤ p). inr (omega arith)) (apart some)) (omega arith),
      length-put front (ring_start + hd) (pad_bytes pad) (omega arith),
    ))
    (cases_Bool (eqb pad 0))

-- an entry that is whole, apart from the pad and from the new entry
pub entered_part : (front : List ℕ) (size hd pad at head' : ℕ) (bytes : List ℕ) (p n : ℕ) → length front ≡ data_start size → (pad ≢ 0 → 8 ≤ pad) → hd + pad ≤ size → at + length bytes ≤ size →
    (pad ≢ 0 → (p + n ≤ hd) ⊎ (hd + pad ≤ p)) → (p + n ≤ at) ⊎ (at + length bytes ≤ p) →
    part (entered front hd pad at head' bytes) (ring_start + p) n ≡ part front (ring_start + p) n
entered_part front size hd pad at head' bytes p n l least room fits apart_pad apart =
    let f = padded_part front size hd pad p n l least room apart_pad in
    let f1 : length (with_pad front hd pad) ≡ length front = f.1 in
    let lh : length (le 4 head') ≡ 4 = length-le 4 head' in
    let l2 : length (put (with_pad front hd pad) (ring_start + at) bytes) ≡ length (with_pad front hd pad) = length-put (with_pad front hd pad) (ring_start + at) bytes (omega arith) in
    part-written_behind (put (with_pad front hd pad) (ring_start + at) bytes) head_place (le 4 head') (ring_start + p) n (omega arith) (omega arith)
    ∙ part-written_apart (with_pad front hd pad) (ring_start + at) bytes (ring_start + p) n
    (⊎_elim (λ (k : p + n ≤ at). inl (omega arith)) (λ (k : at + length bytes ≤ p). inr (omega arith)) apart) (omega arith)
    ∙ f.0

pub length-entered : (front : List ℕ) (size hd pad at head' : ℕ) (bytes : List ℕ) → length front ≡ data_start size → (pad ≢ 0 → 8 ≤ pad) → hd + pad ≤ size → at + length bytes ≤ size →
    length (entered front hd pad at head' bytes) ≡ length front
length-entered front size hd pad at head' bytes l least room fits =
    let f = padded_part front size hd pad size 0 l least room (λ q. inr room) in
    let f1 : length (with_pad front hd pad) ≡ length front = f.1 in
    let lh : length (le 4 head') ≡ 4 = length-le 4 head' in
    let l2 : length (put (with_pad front hd pad) (ring_start + at) bytes) ≡ length (with_pad front hd pad) = length-put (with_pad front hd pad) (ring_start + at) bytes (omega arith) in
    length-put (put (with_pad front hd pad) (ring_start + at) bytes) head_place (le 4 head') (omega arith) ∙ l2 ∙ f1

-- the new entry, and the pad
pub entered_new : (front : List ℕ) (size hd pad at head' : ℕ) (bytes : List ℕ) → length front ≡ data_start size → (pad ≢ 0 → 8 ≤ pad) → hd + pad ≤ size → at + length bytes ≤ size →
    part (entered front hd pad at head' bytes) (ring_start + at) (length bytes) ≡ bytes
entered_new front size hd pad at head' bytes l least room fits =
    let f = padded_part front size hd pad size 0 l least room (λ q. inr room) in
    let f1 : length (with_pad front hd pad) ≡ length front = f.1 in
    let lh : length (le 4 head') ≡ 4 = length-le 4 head' in
    let l2 : length (put (with_pad front hd pad) (ring_start + at) bytes) ≡ length (with_pad front hd pad) = length-put (with_pad front hd pad) (ring_start + at) bytes (omega arith) in
    part-written_behind (put (with_pad front hd pad) (ring_start + at) bytes) head_place (le 4 head') (ring_start + at) (length bytes) (omega arith) (omega arith)
    ∙ part-written (with_pad front hd pad) (ring_start + at) bytes (omega arith)

pub entered_pad : (front : List ℕ) (size hd pad at head' : ℕ) (bytes : List ℕ) → length front ≡ data_start size → pad ≢ 0 → 8 ≤ pad → hd + pad ≤ size → at + length bytes ≤ size →
    (hd + pad ≤ at) ⊎ (at + length bytes ≤ hd) → part (entered front hd pad at head' bytes) (ring_start + hd) pad ≡ pad_bytes pad
entered_pad front size hd pad at head' bytes l some least room fits apart =
    let z : eqb pad 0 ≡ false = ne_eqb pad 0 some in
    let f = padded_part front size hd pad size 0 l (λ q. least) room (λ q. inr room) in
    let f1 : length (with_pad front hd pad) ≡ length front = f.1 in
    let lh : length (le 4 head') ≡ 4 = length-le 4 head' in
    let lp : length (pad_bytes pad) ≡ pad = length-pad pad least in
    let l2 : length (put (with_pad front hd pad) (ring_start + at) bytes) ≡ length (with_pad front hd pad) = length-put (with_pad front hd pad) (ring_start + at) bytes (omega arith) in
    let e : with_pad front hd pad ≡ put front (ring_start + hd) (pad_bytes pad) = rw z refl in
    let w : part (put front (ring_start + hd) (pad_bytes pad)) (ring_start + hd) (length (pad_bytes pad)) ≡ pad_bytes pad = part-written front (ring_start + hd) (pad_bytes pad) (omega arith) in
    part-written_behind (put (with_pad front hd pad) (ring_start + at) bytes) head_place (le 4 head') (ring_start + hd) pad (omega arith) (omega arith)
    ∙ part-written_apart (with_pad front hd pad) (ring_start + at) bytes (ring_start + hd) pad
    (⊎_elim (λ (k : hd + pad ≤ at). inl (omega arith)) (λ (k : at + length bytes ≤ hd). inr (omega arith)) apart) (omega arith)
    ∙ ap (λ xs. part xs (ring_start + hd) pad) e ∙ ap (take pad) refl ∙ ap (λ k. part (put front (ring_start + hd) (pad_bytes pad)) (ring_start + hd) k) (sym lp) ∙ w

pub take-entered : (front : List ℕ) (size hd pad at head' : ℕ) (bytes : List ℕ) → length front ≡ data_start size → (pad ≢ 0 → 8 ≤ pad) → hd + pad ≤ size → at + length bytes ≤ size →
    take ring_start (entered front hd pad at head' bytes) ≡ put (take ring_start front) head_place (le 4 head')
take-entered front size hd pad at head' bytes l least room fits =
    let f = padded_part front size hd pad size 0 l least room (λ q. inr room) in
    let f1 : length (with_pad front hd pad) ≡ length front = f.1 in
    let lh : length (le 4 head') ≡ 4 = length-le 4 head' in
    let l2 : length (put (with_pad front hd pad) (ring_start + at) bytes) ≡ length (with_pad front hd pad) = length-put (with_pad front hd pad) (ring_start + at) bytes (omega arith) in
    let a : take ring_start (put (with_pad front hd pad) (ring_start + at) bytes) ≡ take ring_start (with_pad front hd pad) = take-written (with_pad front hd pad) (ring_start + at) bytes ring_start (omega arith) (omega arith) in
    take-written_inside (put (with_pad front hd pad) (ring_start + at) bytes) head_place (le 4 head') ring_start (omega arith) (omega arith)
    ∙ ap (λ xs. put xs head_place (le 4 head')) (a ∙ take_padded)
  where
    take_padded : take ring_start (with_pad front hd pad) ≡ take ring_start front
    take_padded =
        ⊎_elim
        (λ (z : eqb pad 0 ≡ true). rw z refl)
        (λ (z : eqb pad 0 ≡ false). rw z (take-written front (ring_start + hd) (pad_bytes pad) ring_start (omega arith) (omega arith)))
        (cases_Bool (eqb pad 0))
