-- A next that finds no entry over any bytes: its place is the head.
use Rattle.std.proofs.Common.{◌≡◌, ◌≢◌, ◌⊎◌, inl, inr, ℕ, ◌+◌, ◌-◌, ◌*◌, ◌%◌, ◌<◌, ◌≤◌, ◌==◌, Bool, true, false, ltb, length, suc, zero, Result, Ok, Err, refl, sym, ap, ◌∙◌, arith, subst, ⊎_elim}
use Rattle.std.proofs.Math.Nat.{mod-eq_of_lt, mod-lt, mod_self}
use Rattle.std.proofs.lemmas.Bool.{cases_lt, eqb-true, eqb-false, lt-ltb, le-ltb}
use Rattle.tcmu_types.specs.declared.dump.ItemKind.TheVariants as kind
use Rattle.region_model.specs.declared.mailbox.Mailbox.{Mailbox}
use Rattle.region_model.specs.declared.entry.EntryRef.{EntryRef}
use Rattle.region_model.specs.declared.entry.EntryRef.TheVariants as entry
use Rattle.region_model.specs.declared.entry.EntryFault.{EntryFault}
use Rattle.region_model.specs.Layout.{ring_start}
use Rattle.region_model.specs.EntryReading.{entry_read, limit_of}
use Rattle.region_model.specs.Regions.{RegionState, size_of}
use Rattle.region_model.specs.Sides.{UserState}
use Rattle.region_model.specs.UserSteps.{user_mailbox}
use Rattle.region_model.specs.UserNext.{Nothing, BadEntry, Nexted, iovs_in, tmr_ids_in, with_passed, with_unknown, command_next, note_next, next_within, most_entries, nexted}
use Rattle.ring_laws.specs.UserKept.{UserSound, HasRing}
use Rattle.ring_laws.proofs.PassedEntries.{ReadFrom, read_from, Within, within_read}
use Rattle.ring_laws.proofs.user_over_any_bytes.AnyFaults.{by_mailbox}

-- ==== the bytes up to the head

-- from a place up to the head there are d bytes, round the ring's end where the head is below it
abbrev Left : ℕ → ℕ → ℕ → ℕ → Type 0
Left ring head at d = ((at ≤ head) × (at + d ≡ head)) ⊎ ((head < at) × (at + d ≡ ring + head))

-- behind an entry there are as many less as it is long
record LessLeft (ring head at d len : ℕ) : Type 0 where
  few : len ≤ d
  left : Left ring head ((at + len) % ring) (d - len)

limit_above : (m : Mailbox) (at : ℕ) → at < m.head → limit_of m at ≡ m.head - at
unfolding limit_of
limit_above m at l = let z : ltb at m.head ≡ true = lt-ltb at m.head l in rw z refl

limit_below : (m : Mailbox) (at : ℕ) → m.head ≤ at → limit_of m at ≡ m.cmdr_size - at
unfolding limit_of
limit_below m at l = let z : ltb at m.head ≡ false = le-ltb at m.head l in rw z refl

less_left : (m : Mailbox) (at d len : ℕ) → m.head < m.cmdr_size → at < m.cmdr_size → at ≢ m.head → Left m.cmdr_size m.head at d → len ≤ limit_of m at → LessLeft m.cmdr_size m.head at d len
less_left m at d len hb ab n h l =
    ⊎_elim
    (λ (k : (at ≤ m.head) × (at + d ≡ m.head)).
    let a : at ≤ m.head = k.0 in
    let e : at + d ≡ m.head = k.1 in
    let w : limit_of m at ≡ m.head - at = limit_above m at (omega (arith, a, n)) in
    let p : (at + len) % m.cmdr_size ≡ at + len = mod-eq_of_lt (omega (arith, w, l, a, hb)) in
    record { few = omega (arith, w, l, e); left = inl (omega (arith, p, w, l, a), omega (arith, p, w, l, e, a)) })
    (λ (k : (m.head < at) × (at + d ≡ m.cmdr_size + m.head)).
    let a : m.head < at = k.0 in
    let e : at + d ≡ m.cmdr_size + m.head = k.1 in
    let w : limit_of m at ≡ m.cmdr_size - at = limit_below m at (omega (arith, a)) in
    let few : len ≤ d = omega (arith, w, l, e, ab) in
    ⊎_elim
    (λ (s : at + len < m.cmdr_size).
    let p : (at + len) % m.cmdr_size ≡ at + len = mod-eq_of_lt s in
    record { few = few; left = inr (omega (arith, p, a), omega (arith, p, e, few)) })
    (λ (s : m.cmdr_size ≤ at + len).
    let q : at + len ≡ m.cmdr_size = omega (arith, w, l, s, ab) in
    let p : (at + len) % m.cmdr_size ≡ 0 = ap (λ z. z % m.cmdr_size) q ∙ mod_self m.cmdr_size in
    record { few = few; left = inl (omega (arith, p), omega (arith, p, e, q, few)) })
    (cases_lt (at + len) m.cmdr_size))
    h

-- ==== entries that are passed

abbrev AtHead : Mailbox → Nexted → Type 0
AtHead m k = k.answer ≡ Nothing → k.user.place ≡ m.head

abbrev GoesOn : ℕ → Mailbox → UserState → Type 0
GoesOn n m before =
    (r : RegionState) (u : UserState) (d : ℕ) → u.ring ≡ m.cmdr_size → u.place < m.cmdr_size → Left m.cmdr_size m.head u.place d → d < 8 * n → AtHead m (next_within n m before r u)

-- behind an entry of eight bytes at least the rest of the fuel is enough
passes : (n : ℕ) (m : Mailbox) (before : UserState) (r : RegionState) (u : UserState) (d len : ℕ) → m.head < m.cmdr_size → u.ring ≡ m.cmdr_size → u.place < m.cmdr_size → u.place ≢ m.head → Left m.cmdr_size m.head u.place d → d < 8 * suc n →
    8 ≤ len → len ≤ limit_of m u.place → GoesOn n m before → AtHead m (next_within n m before r (with_passed u kind.Pad len))
passes n m before r u d len hb eu below out left fuel least most rest =
    let k : LessLeft m.cmdr_size m.head u.place d len = less_left m u.place d len hb below out left most in
    let place : (u.place + len) % u.ring ≡ (u.place + len) % m.cmdr_size = ap (λ z. (u.place + len) % z) eu in
    let inside : (u.place + len) % m.cmdr_size < m.cmdr_size = mod-lt (u.place + len) (omega (arith, hb)) in
    rest r (with_passed u kind.Pad len) (d - len) eu (omega (arith, place, inside)) (subst (λ z. Left m.cmdr_size m.head z (d - len)) (sym place) k.left) (omega (arith, k.few, fuel, least))

within_heads : (n : ℕ) (m : Mailbox) (before : UserState) → m.head < m.cmdr_size → GoesOn n m before
within_heads zero m before hb r u d eu below left fuel = absurd (omega (arith, fuel))
within_heads (suc n) m before hb r u d eu below left fuel = by_head (u.place == m.head) refl (within_heads n m before hb)
  where
    by_entry : (o : Result EntryRef EntryFault) → entry_read r.front (size_of r * length r.blocks) m u.place ≡ o → (u.place == m.head) ≡ false → GoesOn n m before → AtHead m (next_within (suc n) m before r u)
    by_entry (Err fault) e b rest =
        let q : next_within (suc n) m before r u ≡ record { answer = BadEntry u.place fault; region = r; user = before } = rw (b, e) refl in
        subst (AtHead m) (sym q) (λ z. absurd (cc))
    by_entry (Ok (entry.Pad len)) e b rest =
        let q : next_within (suc n) m before r u ≡ next_within n m before r (with_passed u kind.Pad len) = rw (b, e) refl in
        let w : Within r.front m u.place (entry.Pad len) = within_read r.front (size_of r * length r.blocks) m u.place (entry.Pad len) e in
        subst (AtHead m) (sym q) (passes n m before r u d len hb eu below (eqb-false u.place m.head b) left fuel w.least w.whole rest)
    by_entry (Ok (entry.Unknown op len)) e b rest =
        let q : next_within (suc n) m before r u ≡ next_within n m before (with_unknown r u.place) (with_passed u kind.Pad len) = rw (b, e) refl in
        let w : Within r.front m u.place (entry.Unknown op len) = within_read r.front (size_of r * length r.blocks) m u.place (entry.Unknown op len) e in
        subst (AtHead m) (sym q) (passes n m before (with_unknown r u.place) u d len hb eu below (eqb-false u.place m.head b) left fuel w.least w.whole rest)
    by_entry (Ok (entry.Cmd len id count cdb)) e b rest =
        let q : next_within (suc n) m before r u ≡ command_next r u len id (iovs_in r.front (ring_start + u.place) 0 count) cdb = rw (b, e) refl in
        subst (AtHead m) (sym q) (λ z. absurd (cc))
    by_entry (Ok (entry.Tmr len type_ count)) e b rest =
        let q : next_within (suc n) m before r u ≡ note_next r u len type_ (tmr_ids_in r.front (ring_start + u.place) 0 count) = rw (b, e) refl in
        subst (AtHead m) (sym q) (λ z. absurd (cc))

    by_head : (b : Bool) → (u.place == m.head) ≡ b → GoesOn n m before → AtHead m (next_within (suc n) m before r u)
    by_head true b rest =
        let q : next_within (suc n) m before r u ≡ record { answer = Nothing; region = r; user = u } = rw b refl in
        subst (AtHead m) (sym q) (λ z. eqb-true u.place m.head b)
    by_head false b rest = by_entry (entry_read r.front (size_of r * length r.blocks) m u.place) refl b rest

-- ==== next

pub next_nothing : (r : RegionState) (u : UserState) (m : Mailbox) → UserSound u → HasRing r u → user_mailbox r ≡ Ok m → (nexted r u).answer ≡ Nothing → (nexted r u).user.place ≡ m.head
next_nothing r u m hu er h =
    let f : ReadFrom r m = read_from r m h in
    let eu : u.ring ≡ m.cmdr_size = omega (arith, f.front, er) in
    let head : m.head < m.cmdr_size = f.bounded.head_below in
    let place : u.place < u.ring = hu.place.below in
    let below : u.place < m.cmdr_size = omega (arith, place, eu) in
    subst (AtHead m) (sym (by_mailbox r u m h))
    (⊎_elim
    (λ (l : m.head < u.place). within_heads (most_entries u.ring) m u head r u (m.cmdr_size + m.head - u.place) eu below (inr (l, omega (arith, below))) (omega (arith, l, below, eu)))
    (λ (l : u.place ≤ m.head). within_heads (most_entries u.ring) m u head r u (m.head - u.place) eu below (inl (l, omega (arith, l))) (omega (arith, l, head, eu)))
    (cases_lt m.head u.place))
