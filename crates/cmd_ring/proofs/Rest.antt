-- Offsets modulo the ring's size.
use Rattle.std.proofs.Common.{◌≡◌, ℕ, ◌+◌, ◌-◌, ◌%◌, ◌≤◌, ◌≢◌, IsTrue, refl, sym, ap, ◌∙◌, arith}
use Rattle.std.proofs.Math.Nat.{mod-add-mod, mod-mod_of_dvd}
use Rattle.std.proofs.lemmas.Nat.Gcd.{dvd_of_mod-eq-zero}
use Rattle.std.proofs.lemmas.Bool.{leb-true}
use Rattle.cmd_ring.specs.Places.{RingPlaces, IsRing, IsItemLength, pad, fits, placed}
use Rattle.tcmu_types.specs.Rules.{IsRingSize}

-- the ring is made of words of 8 bytes
pub size-words : (size : ℕ) → IsRingSize size → size % 8 ≡ 0
size-words size h = omega arith

pub rest-words : (x size : ℕ) → x % 8 ≡ 0 → size % 8 ≡ 0 → x % size % 8 ≡ 0
rest-words x size a b = mod-mod_of_dvd 8 x (dvd_of_mod-eq-zero 8 b) ∙ a

pub pad-words : (p : RingPlaces) (n : ℕ) → IsRing p → pad p n % 8 ≡ 0
pad-words p n h =
    let w : p.head % 8 ≡ 0 = ap (λ z. z % 8) h.head_behind ∙ rest-words (p.cleaned + p.used) p.size (omega arith) (size-words p.size h.ring_size) in
    let s : p.size % 8 ≡ 0 = size-words p.size h.ring_size in
    grind arith

-- what is cleaned leaves the head where it is
pub head-stays : (size cleaned used n : ℕ) → n ≤ used → ((cleaned + n) % size + (used - n)) % size ≡ (cleaned + used) % size
head-stays size cleaned used n h =
    let e : cleaned + n + (used - n) ≡ cleaned + used = omega arith in
    mod-add-mod (cleaned + n) size (used - n) ∙ ap (λ z. z % size) e

add_three : (a b c : ℕ) → a + (b + c) ≡ a + b + c
add_three a b c = omega arith

pub advanced-sound : (size cleaned used n : ℕ) → n ≤ used → n % 8 ≡ 0 → IsRing (record { size = size; head = (cleaned + used) % size; cleaned = cleaned; used = used }) →
    IsRing (record { size = size; head = ((cleaned + n) % size + (used - n)) % size; cleaned = (cleaned + n) % size; used = used - n })
advanced-sound size cleaned used n h w r =
    let a = r.one_unused in
    let l = r.ring_size.least in
    let u = r.used_words in
    let c = r.cleaned_words in
    record {
      ring_size = r.ring_size;
      cleaned_within = omega arith;
      one_unused = omega arith;
      head_behind = refl;
      cleaned_words = rest-words (cleaned + n) size (omega arith) (size-words size r.ring_size);
      used_words = omega arith;
    }

-- the numbers of a ring's fields
abbrev pub numbers : ℕ → ℕ → ℕ → RingPlaces
numbers size cleaned used = record { size = size; head = (cleaned + used) % size; cleaned = cleaned; used = used }

pub placed-sound : (size cleaned used n m : ℕ) → m ≡ pad (numbers size cleaned used) n → IsItemLength size n → IsTrue (fits (numbers size cleaned used) n) →
    IsRing (numbers size cleaned used) → IsRing (numbers size cleaned (used + (m + n)))
placed-sound size cleaned used n m e l f r =
    let w = pad-words (numbers size cleaned used) n r in
    let u = r.used_words in
    let k = l.words in
    let b : m + n ≤ size - used - 1 = rw e (leb-true _ _ f) in
    let o = r.one_unused in
    record {
      ring_size = r.ring_size;
      cleaned_within = r.cleaned_within;
      one_unused = omega arith;
      head_behind = refl;
      cleaned_words = r.cleaned_words;
      used_words = omega arith;
    }

pub placed-same : (size cleaned used n m : ℕ) → m ≡ pad (numbers size cleaned used) n → numbers size cleaned (used + (m + n)) ≡ placed (numbers size cleaned used) n
placed-same size cleaned used n m e =
    let a : (cleaned + (used + (m + n))) % size ≡ ((cleaned + used) % size + (m + n)) % size =
    ap (λ z. z % size) (add_three cleaned used (m + n)) ∙ sym (mod-add-mod (cleaned + used) size (m + n)) in
    rw (← e) (rw a refl)

pub pad-whole : (p : RingPlaces) (n m : ℕ) → m ≡ pad p n → m ≢ 0 → IsRing p → (8 ≤ m) × (m % 8 ≡ 0)
pad-whole p n m e z r =
    let w : m % 8 ≡ 0 = ap (λ z. z % 8) e ∙ pad-words p n r in
    (omega arith, w)
