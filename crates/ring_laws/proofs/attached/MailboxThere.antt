-- The mailbox that stands at the front of a region is read as what was written.
use Rattle.std.proofs.Common.{◌≡◌, ℕ, ◌+◌, ◌*◌, ◌/◌, ◌%◌, ◌≤◌, ◌<◌, Bool, true, false, cond, List, [], ◌∷◌, ◌++◌, length, take, drop, refl, sym, ap, ◌∙◌, arith, Ok, nat_le, nat_lt, suc, zero, eqb}
use Rattle.std.proofs.lemmas.Bool.{le-ltb, eq-eqb}
use Rattle.std.proofs.lemmas.Bool.Decides.{nat_tests}
use Rattle.std.proofs.lemmas.List.{take-append-drop}
use Rattle.std.proofs.lemmas.List.Sums.{sum_by-cons}
use Rattle.tcmu_types.specs.Data.{SettingsData}
use Rattle.tcmu_types.specs.declared.settings.Flags.{Flags}
use Rattle.region_model.specs.declared.mailbox.Mailbox.{Mailbox}
use Rattle.tcmu_model.specs.RingState.{Item, lengths, head}
use Rattle.tcmu_model.specs.Device.{DeviceState}
use Rattle.tcmu_model.specs.Sound.{Along, IsItem, IsSound}
use Rattle.tcmu_model.specs.BlockLists.{Taken}
use Rattle.region_model.specs.Layout.{mailbox_bytes, device_mailbox, flag_bits, ring_start, data_start}
use Rattle.region_model.specs.MailboxReading.{mailbox_in, mailbox_read, judged, is_ring_size, Fits, IsMailbox}
use Rattle.region_model.specs.Picture.{tail}
use Rattle.region_model.specs.Regions.{RegionState}
use Rattle.region_model.specs.Sides.{Recorded}
use Rattle.region_model.specs.Represents.{RingStands}
use Rattle.region_model.specs.UserSteps.{user_mailbox, of_size, ring_size}
use Rattle.tcmu_types.proofs.ByteFields.{field-front}
use Rattle.ring_laws.proofs.SoundRing.{holds}
use Rattle.ring_laws.specs.Placed.{HoldsItems}
use Rattle.tcmu_model.proofs.Laying.{times_eight}
use Rattle.region_model.proofs.PartLengths.{length-mailbox, mailbox_fields}

-- they are those of the first 128 bytes
of_front : (text rest : List ℕ) → length text ≡ 128 → mailbox_in (text ++ rest) ≡ mailbox_in text
unfolding mailbox_in
of_front text rest len =
    rw (field-front 2 0 text rest (omega arith), field-front 2 2 text rest (omega arith), field-front 4 4 text rest (omega arith), field-front 4 8 text rest (omega arith), field-front 4 12 text rest (omega arith), field-front 4 64 text rest (omega arith)) refl

ring_true : (n : ℕ) → 4096 ≤ n → n ≤ 4194304 → n % 4096 ≡ 0 → is_ring_size n ≡ true
ring_true n a b c = grind (arith, nat_tests)

-- a mailbox that breaks no rule
judged_ok : (m : Mailbox) → IsMailbox m → judged m ≡ Ok m
unfolding judged
judged_ok m h =
    let t1 : eqb m.version 2 ≡ true = eq-eqb m.version 2 h.version in
    let t2 : eqb m.cmdr_off 128 ≡ true = eq-eqb m.cmdr_off 128 h.cmdr_off in
    let t3 : is_ring_size m.cmdr_size ≡ true = ring_true m.cmdr_size h.ring.least h.ring.most h.ring.pages in
    let t4 : eqb (m.head % 8) 0 ≡ true = eq-eqb (m.head % 8) 0 h.head_aligned in
    let t5 : eqb (m.tail % 8) 0 ≡ true = eq-eqb (m.tail % 8) 0 h.tail_aligned in
    let t6 : nat_le m.cmdr_size m.head ≡ false = above m.cmdr_size m.head h.head_inside in
    let t7 : nat_le m.cmdr_size m.tail ≡ false = above m.cmdr_size m.tail h.tail_inside in
    rw (t1, t2, t3, t4, t5, t6, t7) refl
  where
    above : (a b : ℕ) → b < a → nat_le a b ≡ false
    above a b l = grind (arith, nat_tests)

pub mailbox_there : (front : List ℕ) (m : Mailbox) → Fits m → IsMailbox m → 128 ≤ length front → take ring_start front ≡ mailbox_bytes m → mailbox_read front ≡ Ok m
unfolding mailbox_read
mailbox_there front m fits ok long there =
    let t : nat_lt (length front) 128 ≡ false = le-ltb _ _ long in
    let split : front ≡ mailbox_bytes m ++ drop 128 front = sym (take-append-drop 128 front) ∙ ap (λ xs. xs ++ drop 128 front) there in
    let fs : mailbox_in front ≡ m = ap mailbox_in split ∙ of_front (mailbox_bytes m) (drop 128 front) (length-mailbox m) ∙ mailbox_fields m fits in
    rw t (ap judged fs ∙ judged_ok m ok)

-- ==== of a sound device

aligned_front : (s : SettingsData) (start n : ℕ) (is : List Item) → Along (IsItem s) start is → lengths (take n is) % 8 ≡ 0
aligned_front s start zero is h = refl
aligned_front s start (suc n) [] h = refl
aligned_front s start (suc n) (i ∷ is) h =
    let rest : lengths (take n is) % 8 ≡ 0 = aligned_front s (start + i.len) n is h.1 in
    let even : i.len % 8 ≡ 0 = h.0.even in
    let sum : lengths (i ∷ take n is) ≡ i.len + lengths (take n is) = sum_by-cons (λ (t : Item). t.len) i (take n is) in
    omega arith

-- what is left of eights behind whole rings of eights
rest_even : (l s : ℕ) → l % 8 ≡ 0 → s % 8 ≡ 0 → 0 < s → l % s % 8 ≡ 0
rest_even l s a b z =
    let t : s * (l / s) ≡ 8 * (s / 8 * (l / s)) = times_eight s (s / 8) (l / s) (omega arith) in
    let d : s * (l / s) + l % s ≡ l = omega arith in
    omega (arith, t, d, a, b)

abbrev pub mailbox_of : DeviceState → Mailbox
mailbox_of d = device_mailbox d.settings.flags d.ring.size (head d.ring) (tail d.ring)

small_flags : (f : Flags) → flag_bits f < 8
small_flags f = by_bits f.ooo f.read_len f.tmr
  where
    by_bits : (a b c : Bool) → cond {A = ℕ} a 1 0 + cond b 2 0 + cond c 4 0 < 8
    by_bits true true true = omega arith
    by_bits true true false = omega arith
    by_bits true false true = omega arith
    by_bits true false false = omega arith
    by_bits false true true = omega arith
    by_bits false true false = omega arith
    by_bits false false true = omega arith
    by_bits false false false = omega arith

is_mailbox : (d : DeviceState) → IsSound d → IsMailbox (mailbox_of d)
is_mailbox d h =
    let hold : HoldsItems d.ring = holds d h in
    let size : d.ring.size ≡ d.settings.ring = h.ring.size in
    let low : 4096 ≤ d.settings.ring = h.settings.ring.least in
    let high : d.settings.ring ≤ 4194304 = h.settings.ring.most in
    let pages : d.settings.ring % 4096 ≡ 0 = h.settings.ring.pages in
    let some : 0 < d.ring.size = omega arith in
    record {
      version = refl;
      cmdr_off = refl;
      ring = record { least = omega arith; most = omega arith; pages = ap (λ n. n % 4096) size ∙ pages };
      head_aligned = rest_even (lengths d.ring.laid) d.ring.size hold.aligned hold.even some;
      tail_aligned = rest_even (lengths (take d.ring.published d.ring.laid)) d.ring.size (aligned_front d.settings 0 d.ring.published d.ring.laid h.ring.items) hold.even some;
      head_inside = omega arith;
      tail_inside = omega arith;
    }

mailbox_fits : (d : DeviceState) → IsSound d → Fits (mailbox_of d)
mailbox_fits d h =
    let size : d.ring.size ≡ d.settings.ring = h.ring.size in
    let low : 4096 ≤ d.settings.ring = h.settings.ring.least in
    let high : d.settings.ring ≤ 4194304 = h.settings.ring.most in
    let some : 0 < d.ring.size = omega arith in
    record { version = omega arith; flags = omega (arith, small_flags d.settings.flags); cmdr_off = omega arith; cmdr_size = omega arith; head = omega arith; tail = omega arith }

-- the user side reads the mailbox of the device
pub device_mailbox_there : (r : RegionState) (items : List Recorded) (d : DeviceState) (lists : List Taken) → IsSound d → RingStands r.front items d lists → user_mailbox r ≡ Ok (mailbox_of d)
unfolding user_mailbox
device_mailbox_there r items d lists sound h =
    let long : length r.front ≡ data_start d.ring.size = h.long in
    let read : mailbox_read r.front ≡ Ok (mailbox_of d) = mailbox_there r.front (mailbox_of d) (mailbox_fits d sound) (is_mailbox d sound) (omega arith) h.mailbox in
    let size : d.ring.size ≡ ring_size r = omega arith in
    let same : eqb d.ring.size (ring_size r) ≡ true = eq-eqb d.ring.size (ring_size r) size in
    ap (of_size (ring_size r)) read ∙ (let q : of_size (ring_size r) (Ok (mailbox_of d)) ≡ Ok (mailbox_of d) = rw same refl in q)
