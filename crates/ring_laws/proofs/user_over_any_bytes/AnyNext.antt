-- A next over any bytes: what the user side keeps, and what it changes of the region.
use Rattle.std.proofs.Common.{◌≡◌, ◌≢◌, ◌⊎◌, inl, inr, ℕ, ◌+◌, ◌-◌, ◌*◌, ◌%◌, ◌<◌, ◌≤◌, Bool, true, false, cond, ◌&&◌, eqb, ltb, ◌==◌, List, [], ◌∷◌, length, slice_get, slice_index, suc, zero, Option, Some, None, Result, Ok, Err, refl, sym, ap, ◌∙◌, arith, subst, ⊎_elim}
use Rattle.std.proofs.Math.ListN.{set}
use Rattle.std.proofs.Math.Nat.{mod-lt, mod-mod_of_dvd}
use Rattle.std.proofs.lemmas.Nat.Gcd.{dvd_of_mod-eq-zero}
use Rattle.std.proofs.lemmas.Bool.{cases_Bool, cases_lt, eqb-true, eqb-false, ltb-true}
use Rattle.std.proofs.lemmas.List.{length-set}
use Rattle.std.proofs.lemmas.Option.{slice_get-get_or}
use Rattle.byteorder.specs.Endian.{little_number}
use Rattle.tcmu_types.proofs.Readings.{same_some}
use Rattle.tcmu_types.specs.declared.dump.ItemKind.{ItemKind}
use Rattle.tcmu_types.specs.declared.dump.ItemKind.TheVariants as kind
use Rattle.tcmu_types.specs.declared.iovec.Iov.{Iov}
use Rattle.tcmu_types.proofs.Overwriting.{get_overwritten, put_in, put_before, put_behind}
use Rattle.region_model.specs.declared.mailbox.Mailbox.{Mailbox}
use Rattle.region_model.specs.declared.mailbox.MailboxFault.{MailboxFault}
use Rattle.region_model.specs.declared.entry.EntryRef.{EntryRef}
use Rattle.region_model.specs.declared.entry.EntryRef.TheVariants as entry
use Rattle.region_model.specs.declared.entry.EntryFault.{EntryFault}
use Rattle.region_model.specs.Layout.{ring_start, data_start}
use Rattle.tcmu_types.specs.ByteFields.{field, put}
use Rattle.region_model.specs.EntryReading.{op_at, limit_of, entry_read}
use Rattle.region_model.specs.Regions.{RegionState, size_of, numbers_of, are_whole, can_take, without, named_by, can_lend, lent}
use Rattle.region_model.specs.Sides.{Recorded, UserState}
use Rattle.region_model.specs.UserSteps.{user_mailbox}
use Rattle.region_model.specs.UserNext.{NextAnswer, Job, Note, Nothing, BadMailbox, BadEntry, Nexted, iovs_in, tmr_ids_in, region_lent, with_passed, with_unknown, with_job, command_next, note_next, next_within, most_entries, next_of, nexted}
use Rattle.tcmu_types.proofs.Everies.{every-append}
use Rattle.tcmu_types.proofs.ByteFields.{field-before, length-put}
use Rattle.ring_laws.specs.CalledOn.{SameSizes}
use Rattle.ring_laws.specs.RingKept.{IsPlace}
use Rattle.ring_laws.specs.UserKept.{UserSound, HasRing, SetsBit, OnlySetsBits, blocks_behind}
use Rattle.ring_laws.proofs.Bytes.{drop-written}
use Rattle.ring_laws.proofs.PassedEntries.{Bounded, ReadFrom, read_from, Within, within_read}

-- ==== bytes that are put

pub get-other : (xs : List ℕ) (at : ℕ) (ys : List ℕ) (i : ℕ) → at + length ys ≤ length xs → (i < at) ⊎ (at + length ys ≤ i) → slice_get (put xs at ys) i ≡ slice_get xs i
unfolding put
get-other xs at ys i fits h =
    get_overwritten at ys xs fits i
    ∙ ⊎_elim (λ (k : i < at). put_before at (length ys) (slice_get ys) (slice_get xs) i k) (λ (k : at + length ys ≤ i). put_behind at (length ys) (slice_get ys) (slice_get xs) i k) h

get-here : (xs : List ℕ) (at y : ℕ) → at < length xs → slice_get (put xs at (y ∷ [])) at ≡ Some y
unfolding put
get-here xs at y h =
    let z : at - at ≡ 0 = omega arith in
    get_overwritten at (y ∷ []) xs (omega (arith, h)) at ∙ put_in at 1 (slice_get (y ∷ [])) (slice_get xs) at (omega arith) (omega arith) ∙ ap (slice_get (y ∷ [])) z

field-behind : (n j at : ℕ) (xs ys : List ℕ) → at + length ys ≤ j → at ≤ length xs → field n j (put xs at ys) ≡ field n j xs
unfolding field
field-behind n j at xs ys h l = ap (little_number n) (drop-written xs at ys j h l)

-- ==== one bit is set

-- the operation code of an entry is none of its byte 7
op_kept : (xs : List ℕ) (p y j : ℕ) → p < length xs → p % 8 ≡ 7 → j % 8 ≡ 0 → op_at (put xs p (y ∷ [])) j ≡ op_at xs j
op_kept xs p y j l h k =
    ⊎_elim
    (λ (a : j < p). ap (λ n. n % 8) (field-before 4 j p xs (y ∷ []) (omega (arith, a, h, k)) (omega (arith, l))))
    (λ (a : p ≤ j). ap (λ n. n % 8) (field-behind 4 j p xs (y ∷ []) (omega (arith, a, h, k)) (omega (arith, l))))
    (cases_lt j p)

marked : (xs : List ℕ) (at b : ℕ) → ring_start + at + 7 < length xs → at % 8 ≡ 0 → 2 < op_at xs (ring_start + at) → slice_get xs (ring_start + at + 7) ≡ Some b →
    OnlySetsBits xs (put xs (ring_start + at + 7) (cond (eqb (b % 2) 0) (b + 1) b ∷ []))
marked xs at b l a o g i =
    let p : ℕ = ring_start + at + 7 in
    ⊎_elim
    (λ (e : eqb i p ≡ true). let q : i ≡ p = eqb-true i p e in subst (λ (k : ℕ). At k) (sym q) here)
    (λ (e : eqb i p ≡ false). let q : i ≢ p = eqb-false i p e in inl (get-other xs p (cond (eqb (b % 2) 0) (b + 1) b ∷ []) i (omega (arith, l)) (apart i p q)))
    (cases_Bool (eqb i p))
  where
    After : List ℕ
    After = put xs (ring_start + at + 7) (cond (eqb (b % 2) 0) (b + 1) b ∷ [])

    At : ℕ → Type 0
    At k = (slice_get After k ≡ slice_get xs k) ⊎ SetsBit xs After k

    apart : (i p : ℕ) → i ≢ p → (i < p) ⊎ (p + 1 ≤ i)
    apart i p q = ⊎_elim (λ (k : i < p). inl k) (λ (k : p ≤ i). inr (omega (arith, k, q))) (cases_lt i p)

    set : eqb (b % 2) 0 ≡ true → SetsBit xs After (ring_start + at + 7)
    set z =
        let back : ring_start + at + 7 - 7 ≡ ring_start + at = omega arith in
        record {
          byte = b;
          was = g;
          clear = eqb-true (b % 2) 0 z;
          now_set = get-here xs (ring_start + at + 7) (cond (eqb (b % 2) 0) (b + 1) b) l ∙ ap (λ t. Some (cond {A = ℕ} t (b + 1) b)) z;
          behind = omega arith;
          place = omega (arith, a);
          unknown = subst (λ (k : ℕ). 2 < op_at xs k) (sym back) o;
        }

    here : At (ring_start + at + 7)
    here =
        ⊎_elim
        (λ (z : eqb (b % 2) 0 ≡ true). inr (set z))
        (λ (z : eqb (b % 2) 0 ≡ false). inl (get-here xs (ring_start + at + 7) (cond (eqb (b % 2) 0) (b + 1) b) l ∙ ap (λ t. Some (cond {A = ℕ} t (b + 1) b)) z ∙ sym g))
        (cases_Bool (eqb (b % 2) 0))

-- bits set one after another
bits_more : (xs ys zs : List ℕ) → ((j : ℕ) → j % 8 ≡ 0 → op_at ys j ≡ op_at xs j) → OnlySetsBits xs ys → OnlySetsBits ys zs → OnlySetsBits xs zs
bits_more xs ys zs k f g i =
    ⊎_elim
    (λ (e : slice_get zs i ≡ slice_get ys i).
    ⊎_elim
    (λ (d : slice_get ys i ≡ slice_get xs i). inl (e ∙ d))
    (λ (s : SetsBit xs ys i). inr (record { byte = s.byte; was = s.was; clear = s.clear; now_set = e ∙ s.now_set; behind = s.behind; place = s.place; unknown = s.unknown }))
    (f i))
    (λ (s : SetsBit ys zs i).
    ⊎_elim
    (λ (d : slice_get ys i ≡ slice_get xs i).
    let o : 2 < op_at ys (i - 7) = s.unknown in
    let even : (i - 7) % 8 ≡ 0 = eighth i s.behind s.place in
    inr (record { byte = s.byte; was = sym d ∙ s.was; clear = s.clear; now_set = s.now_set; behind = s.behind; place = s.place; unknown = subst (λ (n : ℕ). 2 < n) (k (i - 7) even) o }))
    (λ (s0 : SetsBit xs ys i). absurd (twice s0.byte s.byte s0.clear s.clear (same_some (s0.byte + 1) s.byte (sym s0.now_set ∙ s.was))))
    (f i))
    (g i)
  where
    eighth : (i : ℕ) → ring_start + 7 ≤ i → i % 8 ≡ 7 → (i - 7) % 8 ≡ 0
    eighth i a b = omega (arith, a, b)

    twice : (a b : ℕ) → a % 2 ≡ 0 → b % 2 ≡ 0 → a + 1 ≡ b → ⊥
    twice a b h k e = omega (arith, h, k, e)

no_bits : (xs : List ℕ) → OnlySetsBits xs xs
no_bits xs i = inl refl

-- ==== blocks that are lent

lent_from : ℕ → ℕ → List (Option (List ℕ)) → List Iov → List (Option (List ℕ))
lent_from start size blocks iovs = cond (are_whole start size iovs && can_take blocks (numbers_of start size iovs)) (without blocks (numbers_of start size iovs)) blocks

by_lent : (r : RegionState) (iovs : List Iov) → (region_lent r iovs).blocks ≡ lent_from (length r.front) (size_of r) r.blocks iovs
unfolding lent_from
by_lent r iovs = go (can_lend r iovs)
  where
    go : (b : Bool) → (cond b (lent r iovs) r).blocks ≡ cond b (without r.blocks (named_by r iovs)) r.blocks
    go true = refl
    go false = refl

lent_same : (r : RegionState) (front : List ℕ) (iovs : List Iov) → length front ≡ length r.front → (region_lent (record r { front = front }) iovs).blocks ≡ (region_lent r iovs).blocks
lent_same r front iovs h = by_lent (record r { front = front }) iovs ∙ ap (λ n. lent_from n (size_of r) r.blocks iovs) h ∙ sym (by_lent r iovs)

lent_front : (r : RegionState) (iovs : List Iov) → (region_lent r iovs).front ≡ r.front
lent_front r iovs = go (can_lend r iovs)
  where
    go : (b : Bool) → (cond b (lent r iovs) r).front ≡ r.front
    go true = refl
    go false = refl

lent_pages : (r : RegionState) (iovs : List Iov) → (region_lent r iovs).pages ≡ r.pages
lent_pages r iovs = go (can_lend r iovs)
  where
    go : (b : Bool) → (cond b (lent r iovs) r).pages ≡ r.pages
    go true = refl
    go false = refl

length-without : (blocks : List (Option (List ℕ))) (ns : List ℕ) → length (without blocks ns) ≡ length blocks
length-without blocks [] = refl
length-without blocks (n ∷ ns) = length-without (set blocks n None) ns ∙ length-set blocks n None

lent_count : (r : RegionState) (iovs : List Iov) → length (region_lent r iovs).blocks ≡ length r.blocks
lent_count r iovs = go (can_lend r iovs)
  where
    go : (b : Bool) → length (cond b (lent r iovs) r).blocks ≡ length r.blocks
    go true = length-without r.blocks (named_by r iovs)
    go false = refl

behind_count : (r : RegionState) (a : NextAnswer) → length (blocks_behind r a) ≡ length r.blocks
behind_count r (Job job) = lent_count r job.iovs
behind_count r (Note type_ ids) = refl
behind_count r Nothing = refl
behind_count r (BadMailbox fault) = refl
behind_count r (BadEntry at fault) = refl

behind_same : (r : RegionState) (front : List ℕ) (a : NextAnswer) → length front ≡ length r.front → blocks_behind (record r { front = front }) a ≡ blocks_behind r a
behind_same r front (Job job) h = lent_same r front job.iovs h
behind_same r front (Note type_ ids) h = refl
behind_same r front Nothing h = refl
behind_same r front (BadMailbox fault) h = refl
behind_same r front (BadEntry at fault) h = refl

-- ==== entries that are passed

fits_ring : (m : Mailbox) (at len : ℕ) → Bounded m → at < m.cmdr_size → len ≤ limit_of m at → at + len ≤ m.cmdr_size
unfolding limit_of
fits_ring m at len b l h =
    let head : m.head < m.cmdr_size = b.head_below in
    ⊎_elim
    (λ (e : ltb at m.head ≡ true). let a : at < m.head = ltb-true at m.head e in let k : len ≤ m.head - at = rw e at h in omega (arith, a, k, head))
    (λ (e : ltb at m.head ≡ false). let k : len ≤ m.cmdr_size - at = rw e at h in omega (arith, k, l))
    (cases_Bool (ltb at m.head))

pub next_place : (ring at : ℕ) → 4096 ≤ ring → ring % 4096 ≡ 0 → at % 8 ≡ 0 → IsPlace ring (at % ring)
next_place ring at low even a =
    let eights : ring % 8 ≡ 0 = omega (arith, even) in
    record { below = mod-lt at (omega (arith, low)); aligned = mod-mod_of_dvd 8 at (dvd_of_mod-eq-zero 8 eights) ∙ a }

passed_sound : (u : UserState) (k : ItemKind) (len : ℕ) → UserSound u → len % 8 ≡ 0 → UserSound (with_passed u k len)
passed_sound u k len h even =
    let at : u.place % 8 ≡ 0 = h.place.aligned in
    record {
      ring = h.ring;
      place = next_place u.ring (u.place + len) h.ring.least h.ring.pages (omega (arith, at, even));
      tail = h.tail;
      items = every-append (λ (x : Recorded). x.len % 8 ≡ 0) u.items (record { kind = k; len = len } ∷ []) h.items (even, tt);
      offsets = h.offsets;
    }

job_sound : (u : UserState) (len id : ℕ) → UserSound u → len % 8 ≡ 0 → 112 ≤ len → u.place + len ≤ u.ring → UserSound (with_job u len id)
job_sound u len id h even long fits =
    let p : UserSound (with_passed u kind.Cmd len) = passed_sound u kind.Cmd len h even in
    record { ring = p.ring; place = p.place; tail = p.tail; items = p.items; offsets = every-append (λ at. at + 112 ≤ u.ring) u.offsets (u.place ∷ []) h.offsets (omega (arith, long, fits), tt) }

-- ==== next

-- what a next keeps and changes, from this region on and with this ring
pub record Nexts (r : RegionState) (ring : ℕ) (k : Nexted) : Type 0 where
  pub user : UserSound k.user
  pub ring_same : k.user.ring ≡ ring
  pub front : length k.region.front ≡ length r.front
  pub pages : k.region.pages ≡ r.pages
  pub bits : OnlySetsBits r.front k.region.front
  pub blocks : k.region.blocks ≡ blocks_behind r k.answer

-- an answer that leaves the region as it is
stays : (r : RegionState) (ring : ℕ) (u : UserState) (a : NextAnswer) → UserSound u → u.ring ≡ ring → r.blocks ≡ blocks_behind r a → Nexts r ring (record { answer = a; region = r; user = u })
stays r ring u a h e b = record { user = h; ring_same = e; front = refl; pages = refl; bits = no_bits r.front; blocks = b }

-- an unknown entry was passed before
behind_unknown : (r : RegionState) (ring at : ℕ) (k : Nexted) → ring_start + at + 7 < length r.front → at % 8 ≡ 0 → 2 < op_at r.front (ring_start + at) → Nexts (with_unknown r at) ring k → Nexts r ring k
behind_unknown r ring at k l a o h =
    let p : ℕ = ring_start + at + 7 in
    let b : ℕ = slice_index r.front p in
    let y : ℕ = cond (eqb (b % 2) 0) (b + 1) b in
    let front : List ℕ = put r.front p (y ∷ []) in
    let len : length front ≡ length r.front = length-put r.front p (y ∷ []) (omega (arith, l)) in
    let g : slice_get r.front p ≡ Some b = slice_get-get_or r.front p 0 l in
    record {
      user = h.user;
      ring_same = h.ring_same;
      front = h.front ∙ len;
      pages = h.pages;
      bits = bits_more r.front front k.region.front (λ j e. op_kept r.front p y j l (omega (arith, a)) e) (marked r.front at b l a o g) h.bits;
      blocks = h.blocks ∙ behind_same r front k.answer len;
    }

-- what is passed on to the rest of the entries
abbrev GoesOn : ℕ → Mailbox → UserState → ℕ → Type 0
GoesOn n m before ring =
    (r : RegionState) (u : UserState) → u.ring ≡ ring → length r.front ≡ data_start ring → UserSound u → Nexts r ring (next_within n m before r u)

step : (n : ℕ) (m : Mailbox) (before : UserState) (ring : ℕ) (r : RegionState) (u : UserState) → Bounded m → m.cmdr_size ≡ ring → UserSound before → before.ring ≡ ring → u.ring ≡ ring → length r.front ≡ data_start ring → UserSound u →
    GoesOn n m before ring → (o : Result EntryRef EntryFault) → entry_read r.front (size_of r * length r.blocks) m u.place ≡ o → (u.place == m.head) ≡ false → Nexts r ring (next_within (suc n) m before r u)
step n m before ring r u bm em hb eb eu er hu rest (Err fault) e b =
    let q : next_within (suc n) m before r u ≡ record { answer = BadEntry u.place fault; region = r; user = before } = rw (b, e) refl in
    subst (Nexts r ring) (sym q) (stays r ring before (BadEntry u.place fault) hb eb refl)
step n m before ring r u bm em hb eb eu er hu rest (Ok (entry.Pad len)) e b =
    let w : Within r.front m u.place (entry.Pad len) = within_read r.front (size_of r * length r.blocks) m u.place (entry.Pad len) e in
    let q : next_within (suc n) m before r u ≡ next_within n m before r (with_passed u kind.Pad len) = rw (b, e) refl in
    subst (Nexts r ring) (sym q) (rest r (with_passed u kind.Pad len) eu er (passed_sound u kind.Pad len hu w.even))
step n m before ring r u bm em hb eb eu er hu rest (Ok (entry.Unknown op len)) e b =
    let w : Within r.front m u.place (entry.Unknown op len) = within_read r.front (size_of r * length r.blocks) m u.place (entry.Unknown op len) e in
    let q : next_within (suc n) m before r u ≡ next_within n m before (with_unknown r u.place) (with_passed u kind.Pad len) = rw (b, e) refl in
    let below : u.place < u.ring = hu.place.below in
    let inside : ring_start + u.place + 7 < length r.front = omega (arith, below, eu, er) in
    let p : ℕ = ring_start + u.place + 7 in
    let x : ℕ = slice_index r.front p in
    let lf : length (with_unknown r u.place).front ≡ length r.front = length-put r.front p (cond (eqb (x % 2) 0) (x + 1) x ∷ []) (omega (arith, inside)) in
    subst (Nexts r ring) (sym q)
    (behind_unknown r ring u.place (next_within n m before (with_unknown r u.place) (with_passed u kind.Pad len)) inside hu.place.aligned w.unknown
    (rest (with_unknown r u.place) (with_passed u kind.Pad len) eu (lf ∙ er) (passed_sound u kind.Pad len hu w.even)))
step n m before ring r u bm em hb eb eu er hu rest (Ok (entry.Cmd len id count cdb)) e b =
    let w : Within r.front m u.place (entry.Cmd len id count cdb) = within_read r.front (size_of r * length r.blocks) m u.place (entry.Cmd len id count cdb) e in
    let iovs : List Iov = iovs_in r.front (ring_start + u.place) 0 count in
    let q : next_within (suc n) m before r u ≡ command_next r u len id iovs cdb = rw (b, e) refl in
    let below : u.place < u.ring = hu.place.below in
    let fits : u.place + len ≤ m.cmdr_size = fits_ring m u.place len bm (omega (arith, below, eu, em)) w.whole in
    subst (Nexts r ring) (sym q)
    (record {
      user = job_sound u len id hu w.even w.least (omega (arith, fits, eu, em));
      ring_same = eu;
      front = ap length (lent_front r iovs);
      pages = lent_pages r iovs;
      bits = λ i. inl (ap (λ xs. slice_get xs i) (lent_front r iovs));
      blocks = refl;
    })
step n m before ring r u bm em hb eb eu er hu rest (Ok (entry.Tmr len type_ count)) e b =
    let w : Within r.front m u.place (entry.Tmr len type_ count) = within_read r.front (size_of r * length r.blocks) m u.place (entry.Tmr len type_ count) e in
    let ids : List ℕ = tmr_ids_in r.front (ring_start + u.place) 0 count in
    let q : next_within (suc n) m before r u ≡ note_next r u len type_ ids = rw (b, e) refl in
    subst (Nexts r ring) (sym q) (record { user = passed_sound u kind.Tmr len hu w.even; ring_same = eu; front = refl; pages = refl; bits = no_bits r.front; blocks = refl })

within_keeps : (n : ℕ) (m : Mailbox) (before : UserState) (ring : ℕ) → Bounded m → m.cmdr_size ≡ ring → UserSound before → before.ring ≡ ring → GoesOn n m before ring
within_keeps zero m before ring bm em hb eb r u eu er hu = stays r ring u Nothing hu eu refl
within_keeps (suc n) m before ring bm em hb eb r u eu er hu =
    ⊎_elim
    (λ (b : (u.place == m.head) ≡ true).
    let q : next_within (suc n) m before r u ≡ record { answer = Nothing; region = r; user = u } = rw b refl in
    subst (Nexts r ring) (sym q) (stays r ring u Nothing hu eu refl))
    (λ (b : (u.place == m.head) ≡ false).
    step n m before ring r u bm em hb eb eu er hu (within_keeps n m before ring bm em hb eb) (entry_read r.front (size_of r * length r.blocks) m u.place) refl b)
    (cases_Bool (u.place == m.head))

pub next_keeps : (r : RegionState) (u : UserState) → UserSound u → HasRing r u → Nexts r u.ring (nexted r u)
unfolding nexted
next_keeps r u hu er = go (user_mailbox r) refl
  where
    go : (o : Result Mailbox MailboxFault) → user_mailbox r ≡ o → Nexts r u.ring (next_of r u o)
    go (Err fault) e = stays r u.ring u (BadMailbox fault) hu refl refl
    go (Ok m) e =
        let f : ReadFrom r m = read_from r m e in
        within_keeps (most_entries u.ring) m u u.ring f.bounded (omega (arith, f.front, er)) hu refl r u refl er hu

pub next_sizes : (r : RegionState) (u : UserState) → UserSound u → HasRing r u → SameSizes r (nexted r u).region
next_sizes r u hu er =
    let k : Nexts r u.ring (nexted r u) = next_keeps r u hu er in
    record { front = k.front; area = record { pages = k.pages; count = ap length k.blocks ∙ behind_count r (nexted r u).answer } }

pub next_ring : (r : RegionState) (u : UserState) → UserSound u → HasRing r u → HasRing (nexted r u).region (nexted r u).user
next_ring r u hu er = let k : Nexts r u.ring (nexted r u) = next_keeps r u hu er in omega (arith, k.front, k.ring_same, er)
