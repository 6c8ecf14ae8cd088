-- What entries and mailboxes that read without a fault keep, over any bytes.
use Rattle.std.proofs.Common.{◌≡◌, ◌≢◌, ℕ, ◌+◌, ◌-◌, ◌*◌, ◌%◌, ◌<◌, ◌≤◌, Bool, true, false, not, cond, eqb, ltb, leb, ◌==◌, List, length, zero, suc, Option, Some, None, Result, Ok, Err, refl, ap, ◌∙◌, arith, subst, ⊎_elim}
use Rattle.std.specs.List.{list_all}
use Rattle.std.proofs.lemmas.Bool.{cases_Bool, eqb-true, eqb-false}
use Rattle.tcmu_types.proofs.Readings.{same_ok}
use Rattle.region_model.proofs.EntriesThere.{least_eight}
use Rattle.region_model.specs.declared.mailbox.Mailbox.{Mailbox}
use Rattle.region_model.specs.declared.mailbox.MailboxFault.{MailboxFault}
use Rattle.region_model.specs.declared.mailbox.MailboxFault.TheVariants as mailbox
use Rattle.region_model.specs.declared.entry.EntryRef.{EntryRef}
use Rattle.region_model.specs.declared.entry.EntryRef.TheVariants as entry
use Rattle.region_model.specs.declared.entry.EntryFault.{EntryFault}
use Rattle.region_model.specs.declared.entry.EntryFault.TheVariants as fault
use Rattle.region_model.specs.Layout.{data_start, ring_start}
use Rattle.tcmu_types.specs.ByteFields.{field}
use Rattle.region_model.specs.MailboxReading.{mailbox_in, is_ring_size, judged, mailbox_read}
use Rattle.tcmu_types.specs.Rules.{IsRingSize}
use Rattle.region_model.specs.EntryReading.{op_at, len_at, id_at, iov_cnt_at, bidi_cnt_at, dif_cnt_at, cdb_off_at, kind_at, id_cnt_at, iov_at, lies_inside, first_outside, cdb_at, where_outside, with_cdb, command_read, tmr_read, limit_of, least_of, kind_read, sized_read, entry_read}
use Rattle.region_model.specs.Regions.{RegionState}
use Rattle.region_model.specs.UserNext.{iovs_in}
use Rattle.region_model.specs.UserSteps.{ring_size, of_size, user_mailbox}
use Rattle.tcmu_types.proofs.Guards.{guard_ok, is_same, not_below, not_most}
use Rattle.region_model.proofs.RingSizes.{is_ring_sized}

-- ==== a mailbox

pub record Bounded (m : Mailbox) : Type 0 where
  pub ring : IsRingSize m.cmdr_size
  pub head_below : m.head < m.cmdr_size
  pub tail_below : m.tail < m.cmdr_size
  pub tail_aligned : m.tail % 8 ≡ 0

bounded_read : (xs : List ℕ) (m : Mailbox) → mailbox_read xs ≡ Ok m → Bounded m
unfolding mailbox_read judged
bounded_read xs m h =
    let b : Mailbox = mailbox_in xs in
    let g0 = guard_ok (ltb (length xs) 128) (mailbox.Short (length xs)) _ _ h in
    let g1 = guard_ok (not (b.version == 2)) (mailbox.Version b.version) _ _ g0.1 in
    let g2 = guard_ok (not (b.cmdr_off == ring_start)) (mailbox.Offset b.cmdr_off) _ _ g1.1 in
    let g3 = guard_ok (not (is_ring_size b.cmdr_size)) (mailbox.Size b.cmdr_size) _ _ g2.1 in
    let g4 = guard_ok (not (b.head % 8 == 0)) (mailbox.Unaligned b.head) _ _ g3.1 in
    let g5 = guard_ok (not (b.tail % 8 == 0)) (mailbox.Unaligned b.tail) _ _ g4.1 in
    let g6 = guard_ok (leb b.cmdr_size b.head) (mailbox.OutOfRing b.head) _ _ g5.1 in
    let g7 = guard_ok (leb b.cmdr_size b.tail) (mailbox.OutOfRing b.tail) _ _ g6.1 in
    let whole : Bounded (mailbox_in xs) = record {
      ring = is_ring_sized _ g3.0;
      head_below = not_most _ _ g6.0;
      tail_below = not_most _ _ g7.0;
      tail_aligned = is_same _ _ g5.0;
    } in
    subst Bounded (same_ok _ _ g7.1) whole

-- the mailbox that the user side reads: its ring size is that of the region
pub record ReadFrom (r : RegionState) (m : Mailbox) : Type 0 where
  pub bounded : Bounded m
  pub front : length r.front ≡ data_start m.cmdr_size

pub read_from : (r : RegionState) (m : Mailbox) → user_mailbox r ≡ Ok m → ReadFrom r m
unfolding user_mailbox
read_from r m h = go (mailbox_read r.front) refl h
  where
    sized : (x : Mailbox) (b : Bool) → (x.cmdr_size == ring_size r) ≡ b → cond b (Ok x) (Err (mailbox.Size x.cmdr_size)) ≡ Ok m → (x ≡ m) × (x.cmdr_size ≡ ring_size r)
    sized x true e q = (same_ok x m q, eqb-true x.cmdr_size (ring_size r) e)
    sized x false e q = absurd (cc)

    go : (o : Result Mailbox MailboxFault) → mailbox_read r.front ≡ o → of_size (ring_size r) o ≡ Ok m → ReadFrom r m
    go (Err fault) e q = absurd (cc)
    go (Ok x) e q =
        let k = sized x (x.cmdr_size == ring_size r) refl q in
        let b : Bounded x = bounded_read r.front x e in
        let least : 4096 ≤ x.cmdr_size = b.ring.least in
        let s : x.cmdr_size ≡ length r.front - 4096 = k.1 in
        let whole : ReadFrom r x = record { bounded = b; front = omega (arith, least, s) } in
        subst (λ (y : Mailbox). ReadFrom r y) k.0 whole

-- ==== an entry

-- the length that an entry tells, and how long a command's is at least
abbrev pub told_len : EntryRef → ℕ
told_len (entry.Pad len) = len
told_len (entry.Cmd len id count cdb) = len
told_len (entry.Tmr len kind count) = len
told_len (entry.Unknown op len) = len

abbrev pub least_told : EntryRef → ℕ
least_told (entry.Pad len) = 8
least_told (entry.Cmd len id count cdb) = 112
least_told (entry.Tmr len kind count) = 8
least_told (entry.Unknown op len) = 8

abbrev pub IsUnknownAt : List ℕ → ℕ → EntryRef → Type 0
IsUnknownAt front b (entry.Pad len) = Unit {0}
IsUnknownAt front b (entry.Cmd len id count cdb) = Unit {0}
IsUnknownAt front b (entry.Tmr len kind count) = Unit {0}
IsUnknownAt front b (entry.Unknown op len) = 2 < op_at front b

pub record Within (front : List ℕ) (m : Mailbox) (at : ℕ) (e : EntryRef) : Type 0 where
  pub least : least_told e ≤ told_len e
  pub whole : told_len e ≤ limit_of m at
  pub even : told_len e % 8 ≡ 0
  pub unknown : IsUnknownAt front (ring_start + at) e

-- a command's iovecs all lie in the data area, which has `area` bytes from byte `start` on
abbrev pub IovsInside : List ℕ → ℕ → ℕ → ℕ → EntryRef → Type 0
IovsInside front area start b (entry.Pad len) = Unit {0}
IovsInside front area start b (entry.Cmd len id count cdb) = list_all (lies_inside start (start + area)) (iovs_in front b 0 count) ≡ true
IovsInside front area start b (entry.Tmr len kind count) = Unit {0}
IovsInside front area start b (entry.Unknown op len) = Unit {0}

none_outside : (front : List ℕ) (b low high index n : ℕ) → first_outside front b low high index n ≡ None → list_all (lies_inside low high) (iovs_in front b index n) ≡ true
unfolding first_outside
none_outside front b low high index zero h = refl
none_outside front b low high index (suc n) h =
    ⊎_elim
    (λ (e : lies_inside low high (iov_at front b index) ≡ true). let k : first_outside front b low high (index + 1) n ≡ None = rw e at h in rw e (none_outside front b low high (index + 1) n k))
    (λ (e : lies_inside low high (iov_at front b index) ≡ false). let k : Some index ≡ None = rw e at h in absurd (cc))
    (cases_Bool (lies_inside low high (iov_at front b index)))

-- what the reading of its kind tells
record OfKind (front : List ℕ) (area start b op len : ℕ) (e : EntryRef) : Type 0 where
  same : told_len e ≡ len
  least : least_told e ≤ least_of op
  unknown : op ≡ op_at front b → IsUnknownAt front b e
  inside : IovsInside front area start b e

command_least : (op : ℕ) → eqb op 1 ≡ true → least_of op ≡ 112
unfolding least_of
command_least op z = rw z refl

of_command : (front : List ℕ) (area start b op len : ℕ) (e : EntryRef) → least_of op ≡ 112 → command_read front area start b len ≡ Ok e → OfKind front area start b op len e
unfolding command_read
of_command front area start b op len e l h =
    let g0 = guard_ok (leb len (48 + 16 * iov_cnt_at front b)) (fault.BadCount (iov_cnt_at front b)) _ _ h in
    let g1 = guard_ok (not (bidi_cnt_at front b == 0)) (fault.BadCount (bidi_cnt_at front b)) _ _ g0.1 in
    let g2 = guard_ok (not (dif_cnt_at front b == 0)) (fault.BadCount (dif_cnt_at front b)) _ _ g1.1 in
    by_cdb (cdb_at front (b + 48 + 16 * iov_cnt_at front b) (b + len) (cdb_off_at front b)) g2.1
  where
    is_cmd : (x : EntryRef) (id count : ℕ) (cdb : List ℕ) → list_all (lies_inside start (start + area)) (iovs_in front b 0 count) ≡ true → ◌≡◌ {A = Result EntryRef EntryFault} (Ok (entry.Cmd len id count cdb)) (Ok x) → OfKind front area start b op len x
    is_cmd x id count cdb i q =
        let s : entry.Cmd len id count cdb ≡ x = cc in
        let k : OfKind front area start b op len (entry.Cmd len id count cdb) = record { same = refl; least = omega (arith, l); unknown = λ z. tt; inside = i } in
        subst (λ (y : EntryRef). OfKind front area start b op len y) s k

    by_outside : (o : Option ℕ) (cdb : List ℕ) → first_outside front b start (start + area) 0 (iov_cnt_at front b) ≡ o → where_outside (entry.Cmd len (id_at front b) (iov_cnt_at front b) cdb) o ≡ Ok e → OfKind front area start b op len e
    by_outside None cdb f q = is_cmd e (id_at front b) (iov_cnt_at front b) cdb (none_outside front b start (start + area) 0 (iov_cnt_at front b) f) q
    by_outside (Some i) cdb f q = absurd (cc)

    by_cdb : (o : Option (List ℕ)) → with_cdb front area start b len o ≡ Ok e → OfKind front area start b op len e
    by_cdb None q = absurd (cc)
    by_cdb (Some cdb) q = by_outside (first_outside front b start (start + area) 0 (iov_cnt_at front b)) cdb refl q

of_tmr : (front : List ℕ) (area start b op len : ℕ) (e : EntryRef) → tmr_read front b len ≡ Ok e → OfKind front area start b op len e
unfolding tmr_read
of_tmr front area start b op len e h =
    let g0 = guard_ok (ltb len (32 + 2 * id_cnt_at front b)) (fault.BadCount (id_cnt_at front b)) _ _ h in
    let s : entry.Tmr len (kind_at front b) (id_cnt_at front b) ≡ e = same_ok (entry.Tmr len (kind_at front b) (id_cnt_at front b)) e g0.1 in
    let k : OfKind front area start b op len (entry.Tmr len (kind_at front b) (id_cnt_at front b)) = record { same = refl; least = least_eight op; unknown = λ z. tt; inside = tt } in
    subst (λ (y : EntryRef). OfKind front area start b op len y) s k

of_kind : (front : List ℕ) (area start b op len : ℕ) (e : EntryRef) → kind_read front area start b op len ≡ Ok e → OfKind front area start b op len e
unfolding kind_read
of_kind front area start b op len e h = by_pad (op == 0) refl h
  where
    by_other : (t : Bool) → (op == 0) ≡ false → (op == 1) ≡ false → (op == 2) ≡ t → cond t (tmr_read front b len) (Ok (entry.Unknown op len)) ≡ Ok e → OfKind front area start b op len e
    by_other true x y z q = of_tmr front area start b op len e q
    by_other false x y z q =
        let a : op ≢ 0 = eqb-false op 0 x in
        let c : op ≢ 1 = eqb-false op 1 y in
        let d : op ≢ 2 = eqb-false op 2 z in
        let k : OfKind front area start b op len (entry.Unknown op len) = record { same = refl; least = least_eight op; unknown = λ w. omega (arith, a, c, d, w); inside = tt } in
        subst (λ (v : EntryRef). OfKind front area start b op len v) (same_ok (entry.Unknown op len) e q) k

    by_command : (t : Bool) → (op == 0) ≡ false → (op == 1) ≡ t → cond t (command_read front area start b len) (cond (op == 2) (tmr_read front b len) (Ok (entry.Unknown op len))) ≡ Ok e → OfKind front area start b op len e
    by_command true x y q = of_command front area start b op len e (command_least op y) q
    by_command false x y q = by_other (op == 2) x y refl q

    by_pad : (t : Bool) → (op == 0) ≡ t → cond t (Ok (entry.Pad len)) (cond (op == 1) (command_read front area start b len) (cond (op == 2) (tmr_read front b len) (Ok (entry.Unknown op len)))) ≡ Ok e → OfKind front area start b op len e
    by_pad true x q =
        let k : OfKind front area start b op len (entry.Pad len) = record { same = refl; least = least_eight op; unknown = λ w. tt; inside = tt } in
        subst (λ (v : EntryRef). OfKind front area start b op len v) (same_ok (entry.Pad len) e q) k
    by_pad false x q = by_command (op == 1) x refl q

pub within_read : (front : List ℕ) (area : ℕ) (m : Mailbox) (at : ℕ) (e : EntryRef) → entry_read front area m at ≡ Ok e → Within front m at e
unfolding entry_read sized_read
within_read front area m at e h =
    let b : ℕ = ring_start + at in
    let op : ℕ = op_at front b in
    let len : ℕ = len_at front b in
    let g0 = guard_ok (ltb len (least_of op)) (fault.BadLength len) _ _ h in
    let g1 = guard_ok (ltb (limit_of m at) len) (fault.PastEnd len (limit_of m at)) _ _ g0.1 in
    let least : least_of op ≤ len = not_below _ _ g0.0 in
    let whole : len ≤ limit_of m at = not_below _ _ g1.0 in
    let k : OfKind front area (data_start m.cmdr_size) b op len e = of_kind front area (data_start m.cmdr_size) b op len e g1.1 in
    let few : least_told e ≤ least_of op = k.least in
    let even : len % 8 ≡ 0 = eights (field 4 b front) in
    record { least = omega (arith, least, few, k.same); whole = omega (arith, whole, k.same); even = ap (λ n. n % 8) k.same ∙ even; unknown = k.unknown refl }
  where
    eights : (n : ℕ) → (n - n % 8) % 8 ≡ 0
    eights n = omega arith

pub inside_read : (front : List ℕ) (area : ℕ) (m : Mailbox) (at : ℕ) (e : EntryRef) → entry_read front area m at ≡ Ok e → IovsInside front area (data_start m.cmdr_size) (ring_start + at) e
unfolding entry_read sized_read
inside_read front area m at e h =
    let b : ℕ = ring_start + at in
    let op : ℕ = op_at front b in
    let len : ℕ = len_at front b in
    let g0 = guard_ok (ltb len (least_of op)) (fault.BadLength len) _ _ h in
    let g1 = guard_ok (ltb (limit_of m at) len) (fault.PastEnd len (limit_of m at)) _ _ g0.1 in
    (of_kind front area (data_start m.cmdr_size) b op len e g1.1).inside
