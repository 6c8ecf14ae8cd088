-- An item is laid in a sound ring.
use Rattle.std.proofs.Common.{◌≡◌, ℕ, ◌+◌, ◌-◌, ◌*◌, ◌/◌, ◌%◌, ◌<◌, ◌≤◌, inl, inr, true, false, List, [], ◌∷◌, ◌++◌, length, take, drop, refl, sym, ap, ◌∙◌, arith, ⊎_elim, subst, eqb, ltb, leb, length-append, append-nil}
use Rattle.std.proofs.lemmas.Bool.{cases_Bool, eqb-true, ltb-true, ltb-false, leb-true, le-leb, ne_eqb}
use Rattle.std.proofs.lemmas.List.{take-append-le, drop-append-le}
use Rattle.std.proofs.lemmas.List.Sums.{sum_by-cons, sum_by-append}
use Rattle.std.proofs.lemmas.Grind.{flat_map-append}
use Rattle.std.proofs.Math.Nat.{add-mul-mod_self_left}
use Rattle.tcmu_types.specs.Data.{CommandData, SettingsData}
use Rattle.tcmu_types.specs.Rules.{IsSettings}
use Rattle.tcmu_model.specs.RingState.{RingState, Item, Pad, Cmd, lengths, head, used, free, pad, need, fits, pads, with_item, is_pad, serial_in, serials_in}
use Rattle.tcmu_model.specs.Sound.{Along, IsItem, HasLength, EndsInAnItem, RingSound, IsLaid}

-- ==== parts of the list

pub take_laid : (r : RingState) (i : Item) (n : ℕ) → n ≤ length r.laid → take n (with_item r i).laid ≡ take n r.laid
take_laid r i n h =
    let p : List Item = pads (pad r i.len) in
    take-append-le n (r.laid ++ p) (i ∷ []) (omega (arith, length-append r.laid p)) ∙ take-append-le n r.laid p h

pub drop_laid : (r : RingState) (i : Item) (n : ℕ) → n ≤ length r.laid → drop n (with_item r i).laid ≡ drop n r.laid ++ pads (pad r i.len) ++ i ∷ []
drop_laid r i n h =
    let p : List Item = pads (pad r i.len) in
    drop-append-le n (r.laid ++ p) (i ∷ []) (omega (arith, length-append r.laid p)) ∙ ap (λ (xs : List Item). xs ++ i ∷ []) (drop-append-le n r.laid p h)

pub length_laid : (r : RingState) (i : Item) → length (with_item r i).laid ≡ length r.laid + length (pads (pad r i.len)) + 1
length_laid r i = length-append (r.laid ++ pads (pad r i.len)) (i ∷ []) ∙ ap (λ k. k + 1) (length-append r.laid (pads (pad r i.len)))

pub lengths-append : (xs ys : List Item) → lengths (xs ++ ys) ≡ lengths xs + lengths ys
lengths-append xs ys = sum_by-append (λ i. i.len) xs ys

pub lengths-pads : (n : ℕ) → lengths (pads n) ≡ n
lengths-pads n =
    ⊎_elim
    (λ (e : eqb n 0 ≡ true). let z : n ≡ 0 = eqb-true n 0 e in rw e (omega (arith, z)))
    (λ (e : eqb n 0 ≡ false). rw e (omega (arith, sum_by-cons (λ (i : Item). i.len) (record { len = n; laid = Pad }) [])))
    (cases_Bool (eqb n 0))

pub serials-append : (xs ys : List Item) → serials_in (xs ++ ys) ≡ serials_in xs ++ serials_in ys
serials-append xs ys = flat_map-append serial_in xs ys

pub serials-pads : (n : ℕ) → serials_in (pads n) ≡ []
serials-pads n =
    ⊎_elim
    (λ (e : eqb n 0 ≡ true). rw e refl)
    (λ (e : eqb n 0 ≡ false). rw e refl)
    (cases_Bool (eqb n 0))

serials-one : (i : Item) → serials_in (i ∷ []) ≡ serial_in i
serials-one i = append-nil (serial_in i)

pub serials_laid : (r : RingState) (i : Item) → serials_in (with_item r i).laid ≡ serials_in r.laid ++ serial_in i
serials_laid r i =
    let p : List Item = pads (pad r i.len) in
    let none : serials_in r.laid ++ serials_in p ≡ serials_in r.laid = ap (λ (xs : List ℕ). serials_in r.laid ++ xs) (serials-pads (pad r i.len)) ∙ append-nil (serials_in r.laid) in
    serials-append (r.laid ++ p) (i ∷ [])
    ∙ (ap (λ (xs : List ℕ). xs ++ serials_in (i ∷ [])) (serials-append r.laid p ∙ none) ∙ ap (λ (xs : List ℕ). serials_in r.laid ++ xs) (serials-one i))

-- what is laid stays laid
pub laid_more : (xs ys : List Item) (s : ℕ) (c : CommandData) → IsLaid xs s c → IsLaid (xs ++ ys) s c
laid_more [] ys s c h = absurd h
laid_more (x ∷ xs) ys s c (inl e) = inl e
laid_more (x ∷ xs) ys s c (inr h) = inr (laid_more xs ys s c h)

pub laid_last : (xs : List Item) (n s : ℕ) (c : CommandData) → IsLaid (xs ++ record { len = n; laid = Cmd s c } ∷ []) s c
laid_last [] n s c = inl refl
laid_last (x ∷ xs) n s c = inr (laid_last xs n s c)

-- ==== sound items

pub along-append : (P : ℕ → Item → Type 0) (start : ℕ) (xs ys : List Item) → Along P start xs → Along P (start + lengths xs) ys → Along P start (xs ++ ys)
along-append P start [] ys a b = subst (λ (n : ℕ). Along P n ys) (let z : start + lengths [] ≡ start = omega arith in z) b
along-append P start (x ∷ xs) ys a b =
    let l : lengths (x ∷ xs) ≡ x.len + lengths xs = sum_by-cons (λ (i : Item). i.len) x xs in
    (a.0, along-append P (start + x.len) xs ys a.1 (subst (λ (n : ℕ). Along P n ys) (let e : start + lengths (x ∷ xs) ≡ start + x.len + lengths xs = omega (arith, l) in e) b))

pub aligned : (s : SettingsData) (start : ℕ) (is : List Item) → Along (IsItem s) start is → lengths is % 8 ≡ 0
aligned s start [] h = refl
aligned s start (i ∷ is) h =
    let l : lengths (i ∷ is) ≡ i.len + lengths is = sum_by-cons (λ (x : Item). x.len) i is in
    omega (arith, l, h.0.even, aligned s (start + i.len) is h.1)

pub times_eight : (s m q : ℕ) → s ≡ 8 * m → s * q ≡ 8 * (m * q)
times_eight s m q e = let k : 8 * m * q ≡ 8 * (m * q) = omega arith in ap (λ t. t * q) e ∙ k

-- what is left of a ring of whole eights behind whole eights
eights_left : (s l : ℕ) → s % 8 ≡ 0 → l % 8 ≡ 0 → 0 < s → (8 ≤ s - l % s) × ((s - l % s) % 8 ≡ 0)
eights_left s l e f z =
    let t : s * (l / s) ≡ 8 * (s / 8 * (l / s)) = times_eight s (s / 8) (l / s) (omega arith) in
    let d : s * (l / s) + l % s ≡ l = omega arith in
    (omega (arith, t, d, e, f, z), omega (arith, t, d, e, f, z))

-- the pad fills the ring up to its end, and what follows begins where it fits
record Room (s : SettingsData) (r : RingState) (n : ℕ) : Type 0 where
  padded : Along (IsItem s) (lengths r.laid) (pads (pad r n))
  whole : (lengths r.laid + lengths (pads (pad r n))) % s.ring + n ≤ s.ring

pad_none : (r : RingState) (n : ℕ) → head r + n ≤ r.size → ◌≡◌ {A = ℕ} (pad r n) 0
pad_none r n h =
    ⊎_elim
    (λ (e : ltb (r.size - head r) n ≡ true). let k : r.size - head r < n = ltb-true _ _ e in absurd (omega (arith, k, h)))
    (λ (e : ltb (r.size - head r) n ≡ false). rw e refl)
    (cases_Bool (ltb (r.size - head r) n))

room_for : (s : SettingsData) (r : RingState) (n : ℕ) → IsSettings s → RingSound s r → n ≤ r.size → Room s r n
room_for s r n g h small =
    let sz : r.size ≡ s.ring = h.size in
    let low : 4096 ≤ s.ring = g.ring.least in
    let hd : head r < r.size = omega arith in
    let al : lengths r.laid % 8 ≡ 0 = aligned s 0 r.laid h.items in
    let ev : r.size % 8 ≡ 0 = omega (arith, sz, g.ring.pages) in
    let eights = eights_left r.size (lengths r.laid) ev al (omega (arith, sz, low)) in
    let hs : lengths r.laid % s.ring ≡ head r = ap (λ k. lengths r.laid % k) (sym sz) in
    ⊎_elim
    (λ (e : ltb (r.size - head r) n ≡ true).
    let k : r.size - head r < n = ltb-true _ _ e in
    let p : pad r n ≡ r.size - head r = rw e refl in
    let some : eqb (pad r n) 0 ≡ false = rw p (not_none (r.size - head r) (omega (arith, hd))) in
    let one : pads (pad r n) ≡ record { len = pad r n; laid = Pad } ∷ [] = rw some refl in
    let full : lengths r.laid + pad r n ≡ 0 + r.size * (lengths r.laid / r.size + 1) = omega (arith, p) in
    let turn : (lengths r.laid + pad r n) % r.size ≡ 0 = ap (λ t. t % r.size) full ∙ (add-mul-mod_self_left 0 r.size (lengths r.laid / r.size + 1) ∙ zero_mod r.size (omega (arith, hd))) in
    let turn' : (lengths r.laid + lengths (pads (pad r n))) % s.ring ≡ 0 = ap (λ k. (lengths r.laid + k) % s.ring) (lengths-pads (pad r n)) ∙ (ap (λ k. (lengths r.laid + pad r n) % k) (sym sz) ∙ turn) in
    record {
      padded = subst (λ (is : List Item). Along (IsItem s) (lengths r.laid) is) (sym one)
          (record { some = omega (arith, p, eights.0); even = ap (λ k. k % 8) p ∙ eights.1; whole = omega (arith, hs, p, sz, hd); kind = omega (arith, hs, p, sz, hd) }, tt);
      whole = omega (arith, turn', small, sz);
    })
    (λ (e : ltb (r.size - head r) n ≡ false).
    let k : n ≤ r.size - head r = ltb-false _ _ e in
    let p : ◌≡◌ {A = ℕ} (pad r n) 0 = rw e refl in
    let none : pads (pad r n) ≡ [] = ap pads p in
    let l : lengths r.laid + lengths (pads (pad r n)) ≡ lengths r.laid = omega (arith, lengths-pads (pad r n), p) in
    record {
      padded = subst (λ (is : List Item). Along (IsItem s) (lengths r.laid) is) (sym none) tt;
      whole = let w : (lengths r.laid + lengths (pads (pad r n))) % s.ring ≡ head r = ap (λ t. t % s.ring) l ∙ hs in omega (arith, w, k, sz, hd);
    })
    (cases_Bool (ltb (r.size - head r) n))
  where
    positive : (k : ℕ) → 0 < k → k ≡ 0 → ⊥
    positive k l q = omega arith

    not_none : (k : ℕ) → 0 < k → eqb k 0 ≡ false
    not_none k l = ne_eqb k 0 (λ q. positive k l q)

    zero_mod : (k : ℕ) → 0 < k → 0 % k ≡ 0
    zero_mod k l = omega arith

ends-push : (is : List Item) (i : Item) → is_pad i ≡ false → EndsInAnItem (is ++ i ∷ [])
ends-push [] i h = h
ends-push (x ∷ []) i h = h
ends-push (x ∷ y ∷ is) i h = ends-push (y ∷ is) i h

-- an item for which there is room keeps the ring sound
pub ring_with : (s : SettingsData) (r : RingState) (i : Item) → IsSettings s → RingSound s r → fits r i.len ≡ true → 8 ≤ i.len → i.len % 8 ≡ 0 → ((start : ℕ) → HasLength s start i.len i.laid) → is_pad i ≡ false → RingSound s (with_item r i)
ring_with s r i g h f some even kind other =
    let n : ℕ = i.len in
    let p : List Item = pads (pad r n) in
    let fit : need r n ≤ free r = leb-true _ _ f in
    let small : n ≤ r.size = omega (arith, fit) in
    let room : Room s r n = room_for s r n g h small in
    let cl : r.cleared ≤ length r.laid = omega (arith, h.cleared, h.published, h.dispatched) in
    let one : lengths (i ∷ []) ≡ n = let a : lengths (i ∷ []) ≡ n + 0 = sum_by-cons (λ (x : Item). x.len) i [] in omega (arith, a) in
    let u : used (with_item r i) ≡ used r + pad r n + n =
    ap lengths (drop_laid r i r.cleared cl) ∙ (sum_by-append (λ (x : Item). x.len) (drop r.cleared r.laid ++ p) (i ∷ []) ∙ (let a : lengths (drop r.cleared r.laid ++ p) ≡ used r + lengths p = sum_by-append (λ (x : Item). x.len) (drop r.cleared r.laid) p in omega (arith, a, lengths-pads (pad r n), one))) in
    let la : lengths (r.laid ++ p) ≡ lengths r.laid + lengths p = sum_by-append (λ (x : Item). x.len) r.laid p in
    let last : Along (IsItem s) (0 + lengths (r.laid ++ p)) (i ∷ []) =
    (record { some = some; even = even; whole = subst (λ (k : ℕ). k % s.ring + n ≤ s.ring) (let e : lengths r.laid + lengths p ≡ 0 + lengths (r.laid ++ p) = omega (arith, la) in e) room.whole; kind = kind (0 + lengths (r.laid ++ p)) }, tt) in
    record {
      size = h.size;
      cleared = h.cleared;
      published = h.published;
      dispatched = omega (arith, h.dispatched, length_laid r i);
      room = omega (arith, u, fit, some, h.room);
      items = along-append (IsItem s) 0 (r.laid ++ p) (i ∷ []) (along-append (IsItem s) 0 r.laid p h.items (subst (λ (k : ℕ). Along (IsItem s) k p) (let e : lengths r.laid ≡ 0 + lengths r.laid = omega arith in e) room.padded)) last;
      ends = ends-push (r.laid ++ p) i other;
    }

-- an empty ring takes every entry that is not over half of it, at every head
pub empty_takes : (r : RingState) (n : ℕ) → used r ≡ 0 → 0 < n → 2 * n ≤ r.size → fits r n ≡ true
empty_takes r n u some half =
    ⊎_elim
    (λ (e : ltb (r.size - head r) n ≡ true). let k : r.size - head r < n = ltb-true _ _ e in rw e (fine (r.size - head r) (omega (arith, k))))
    (λ (e : ltb (r.size - head r) n ≡ false). rw e (fine 0 (omega (arith, some))))
    (cases_Bool (ltb (r.size - head r) n))
  where
    fine : (p : ℕ) → p < n → leb (p + n) (free r) ≡ true
    fine p l = le-leb (p + n) (free r) (omega (arith, l, u, half))
