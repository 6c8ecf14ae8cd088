-- Lists of calls of a ring.
use Rattle.std.proofs.Common.{◌≡◌, ℕ, ◌-◌, ◌%◌, ◌≤◌, Bool, true, false, cond, eqb, ltb, List, [], ◌∷◌, ◌++◌, length, take, drop, refl, subst, arith, length-append, suc, zero}
use Rattle.tcmu_model.specs.RingState.{RingState, Item, lengths, pads, empty_ring, with_item}
use Rattle.tcmu_model.specs.RingState as ring
use Rattle.cmd_ring.specs.Places.{RingPlaces, opened, places_of}
use Rattle.tcmu_types.specs.Rules.{IsRingSize}
use Rattle.cmd_ring.specs.Calls.{RingCall, Lay, Clear, Reset, ring_after, places_after, IsAllowed, AllAllowed, IsMet, Follows}
use Rattle.cmd_ring.proofs.Rest.{size-words, rest-words}
use Rattle.cmd_ring.proofs.Laid.{laying, clearing, lengths-cleared}
use Rattle.tcmu_model.proofs.Laying.{lengths-append}

-- each item is made of words of 8 bytes
abbrev EachWords : List Item → Type 0
EachWords [] = Unit {0}
EachWords (i ∷ is) = (i.len % 8 ≡ 0) × EachWords is

words-append : (xs ys : List Item) → EachWords xs → EachWords ys → EachWords (xs ++ ys)
words-append [] ys a b = b
words-append (x ∷ xs) ys a b = (a.0, words-append xs ys a.1 b)

words-take : (n : ℕ) (xs : List Item) → EachWords xs → EachWords (take n xs)
words-take zero xs a = tt
words-take (suc n) [] a = tt
words-take (suc n) (x ∷ xs) a = (a.0, words-take n xs a.1)

words-drop : (n : ℕ) (xs : List Item) → EachWords xs → EachWords (drop n xs)
words-drop zero xs a = a
words-drop (suc n) [] a = tt
words-drop (suc n) (x ∷ xs) a = words-drop n xs a.1

lengths-words : (xs : List Item) → EachWords xs → lengths xs % 8 ≡ 0
lengths-words [] a = refl
lengths-words (x ∷ xs) a =
    let e = lengths-append (x ∷ []) xs in
    let r = lengths-words xs a.1 in
    let one : lengths (x ∷ []) ≡ x.len = omega arith in
    let w = a.0 in
    omega arith

words-pads : (n : ℕ) → n % 8 ≡ 0 → EachWords (pads n)
words-pads n h =
    let P : Bool → Type 0 = λ b. EachWords (cond {A = List Item} b [] (record { len = n; laid = ring.Pad } ∷ [])) in
    elim (eqb n 0) as P [ true ↦ tt | false ↦ (h, tt) ]

-- what lasts from call to call
record Sound (r : RingState) : Type 0 where
  pub size : IsRingSize r.size
  pub cleared : r.cleared ≤ length r.laid
  pub words : EachWords r.laid

pad_of-words : (size head n : ℕ) → head % 8 ≡ 0 → size % 8 ≡ 0 → (cond (ltb (size - head) n) (size - head) 0) % 8 ≡ 0
pad_of-words size head n a b = grind arith

sound-after : (r : RingState) (c : RingCall) → Sound r → IsAllowed r c → Sound (ring_after r c)
sound-after r (Lay i) s a =
    let h : ring.head r % 8 ≡ 0 = rest-words (lengths r.laid) r.size (lengths-words r.laid s.words) (size-words r.size s.size) in
    let p : ring.pad r i.len % 8 ≡ 0 = pad_of-words r.size (ring.head r) i.len h (size-words r.size s.size) in
    let few = length-append r.laid (pads (ring.pad r i.len)) in
    let more = length-append (r.laid ++ pads (ring.pad r i.len)) (i ∷ []) in
    record {
      size = s.size;
      cleared = let c = s.cleared in omega arith;
      words = words-append (r.laid ++ pads (ring.pad r i.len)) (i ∷ []) (words-append r.laid (pads (ring.pad r i.len)) s.words (words-pads (ring.pad r i.len) p)) (a.0.words, tt);
    }
sound-after r (Clear k) s a = record { size = s.size; cleared = a; words = s.words }
sound-after r Reset s a = record { size = s.size; cleared = omega arith; words = tt }

met : (r : RingState) (c : RingCall) → Sound r → IsAllowed r c → IsMet (places_of r) r c
met r (Lay i) s a = a
met r (Clear k) s a =
    let e = lengths-cleared r.cleared k r.laid in
    (omega arith, lengths-words (take k (drop r.cleared r.laid)) (words-take k (drop r.cleared r.laid) (words-drop r.cleared r.laid s.words)))
met r Reset s a = tt

zero-rest : (size : ℕ) → 4096 ≤ size → 0 % size ≡ 0
zero-rest size h = omega arith

pub opening : (size : ℕ) → IsRingSize size → places_of (empty_ring size) ≡ opened size
opening size h = let z = zero-rest size h.least in cc

after : (r : RingState) (c : RingCall) → Sound r → IsAllowed r c → places_of (ring_after r c) ≡ places_after (places_of r) r c
after r (Lay i) s a = laying r i s.cleared
after r (Clear k) s a = clearing r k a
after r Reset s a = opening r.size s.size

follows : (r : RingState) (calls : List RingCall) → Sound r → AllAllowed r calls → Follows (places_of r) r calls
follows r [] s a = refl
follows r (c ∷ cs) s a =
    let P : RingPlaces → Type 0 = λ p. Follows p (ring_after r c) cs in
    (refl, met r c s a.0, subst P (after r c s a.0) (follows (ring_after r c) cs (sound-after r c s a.0) a.1))

pub calls : (size : ℕ) (cs : List RingCall) → IsRingSize size → AllAllowed (empty_ring size) cs → Follows (opened size) (empty_ring size) cs
calls size cs h a =
    let P : RingPlaces → Type 0 = λ p. Follows p (empty_ring size) cs in
    subst P (opening size h) (follows (empty_ring size) cs (record { size = h; cleared = omega arith; words = tt }) a)
