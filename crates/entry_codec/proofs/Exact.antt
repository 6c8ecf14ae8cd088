-- An entry is read exactly: each answer with its cause.
use Rattle.std.proofs.Common.{◌≡◌, ◌≢◌, ◌⊎◌, inl, inr, ⊎_elim, ℕ, zero, suc, ◌+◌, ◌*◌, ◌≤◌, ◌<◌, ◌==◌, ◌&&◌, not, nat_lt, nat_le, Bool, true, false, List, take, drop, Option, Some, None, Result, Ok, Err, cond, refl, sym, ap, ◌∙◌, arith, subst}
use Rattle.std.specs.Prelude.{slice_index, IfOk}
use Rattle.std.proofs.lemmas.Bool.{cases_lt}
use Rattle.std.proofs.lemmas.Bool.Decides.{nat_tests}
use Rattle.tcmu_types.specs.Rules.{group_length}
use Rattle.tcmu_types.specs.declared.iovec.Iov.{Iov}
use Rattle.region_model.specs.Layout.{data_start}
use Rattle.region_model.specs.EntryReading.{op_at, len_at, id_at, iov_cnt_at, bidi_cnt_at, dif_cnt_at, cdb_off_at, iov_at, kind_at, id_cnt_at, lies_inside, first_outside, cdb_at, where_outside, with_cdb, command_read, tmr_read, limit_of, least_of, kind_read, sized_read, entry_read, LiesInside, CdbInside, BreaksCounts, BreaksEntry, entry_rank, IsFirstEntryFault, SaysEntry, ReadsEntry, KeepsBounds}
use Rattle.region_model.specs.declared.mailbox.Mailbox.{Mailbox}
use Rattle.region_model.specs.declared.entry.EntryRef.{EntryRef}
use Rattle.region_model.specs.declared.entry.EntryRef.TheVariants.{Pad, Cmd, Tmr, Unknown}
use Rattle.region_model.specs.declared.entry.EntryFault.{EntryFault}
use Rattle.region_model.specs.declared.entry.EntryFault.TheVariants.{BadLength, PastEnd, BadCount, CdbOutside, IovOutside}
use Rattle.tcmu_types.proofs.Guards.{differs, is_same, is_below, not_below, is_most, not_most}
use Rattle.mailbox_bytes.proofs.Exact.{kept, past}
use Rattle.region_model.proofs.EntriesThere.{least_eight}

-- ==== the search for an iovec that lies outside

inside_true : (low high : ℕ) (iov : Iov) → lies_inside low high iov ≡ true → LiesInside low high iov
inside_true low high iov test = record { starts = grind (arith, nat_tests); ends = grind (arith, nat_tests) }

inside_false : (low high : ℕ) (iov : Iov) → lies_inside low high iov ≡ false → LiesInside low high iov → ⊥
inside_false low high iov test within = contrary (tests low high iov within.starts within.ends) test
  where
    tests : (low high : ℕ) (iov : Iov) → low ≤ iov.base → iov.base + iov.len ≤ high → lies_inside low high iov ≡ true
    tests low high iov starts ends = grind (arith, nat_tests)

    contrary : {t : Bool} → t ≡ true → t ≡ false → ⊥
    contrary e f = cc

-- the first of the iovecs from index i on that lies outside
record IsOutside (front : List ℕ) (b low high i n j : ℕ) : Type 0 where
  from : i ≤ j
  below : j < i + n
  out : LiesInside low high (iov_at front b j) → ⊥
  before : (k : ℕ) → i ≤ k → k < j → LiesInside low high (iov_at front b k)

outside_none : (front : List ℕ) (b low high i n : ℕ) → first_outside front b low high i n ≡ None → (k : ℕ) → i ≤ k → k < i + n → LiesInside low high (iov_at front b k)
unfolding first_outside
outside_none front b low high i zero h k from below = absurd (omega (arith, from, below))
outside_none front b low high i (suc n) h k from below =
    let g = passed (lies_inside low high (iov_at front b i)) _ i h in
    ⊎_elim
    (λ (later : i < k). outside_none front b low high (i + 1) n g.1 k (omega (arith, later)) (omega (arith, below)))
    (λ (le : k ≤ i). subst (λ (j : ℕ). LiesInside low high (iov_at front b j)) (same i k from le) (inside_true low high (iov_at front b i) g.0))
    (cases_lt i k)
  where
    passed : (t : Bool) (rest : Option ℕ) (i : ℕ) → cond t rest (Some i) ≡ None → (t ≡ true) × (rest ≡ None)
    passed true rest i h = (refl, h)
    passed false rest i h = cc

    same : (i k : ℕ) → i ≤ k → k ≤ i → i ≡ k
    same i k a b = omega (arith, a, b)

outside_some : (front : List ℕ) (b low high i n j : ℕ) → first_outside front b low high i n ≡ Some j → IsOutside front b low high i n j
unfolding first_outside
outside_some front b low high i zero j h = cc
outside_some front b low high i (suc n) j h =
    ⊎_elim
    (λ (g : (lies_inside low high (iov_at front b i) ≡ true) × (first_outside front b low high (i + 1) n ≡ Some j)).
    let rest : IsOutside front b low high (i + 1) n j = outside_some front b low high (i + 1) n j g.1 in
    further i n j g.0 rest)
    (λ (g : (lies_inside low high (iov_at front b i) ≡ false) × (i ≡ j)).
    subst (λ (k : ℕ). IsOutside front b low high i (suc n) k) g.1 (here i n g.0))
    (split (lies_inside low high (iov_at front b i)) _ i j h)
  where
    same : (i k : ℕ) → i ≤ k → k ≤ i → i ≡ k
    same i k a b = omega (arith, a, b)

    split : (t : Bool) (rest : Option ℕ) (i j : ℕ) → cond t rest (Some i) ≡ Some j → ((t ≡ true) × (rest ≡ Some j)) ⊎ ((t ≡ false) × (i ≡ j))
    split true rest i j h = inl (refl, h)
    split false rest i j h = inr (refl, cc)

    here : (i n : ℕ) → lies_inside low high (iov_at front b i) ≡ false → IsOutside front b low high i (suc n) i
    here i n out = record {
      from = omega arith;
      below = omega arith;
      out = inside_false low high (iov_at front b i) out;
      before = λ k a c. absurd (omega (arith, a, c));
    }

    further : (i n j : ℕ) → lies_inside low high (iov_at front b i) ≡ true → IsOutside front b low high (i + 1) n j → IsOutside front b low high i (suc n) j
    further i n j first rest = record {
      from = omega (arith, rest.from);
      below = omega (arith, rest.below);
      out = rest.out;
      before = λ k a c.
          ⊎_elim
          (λ (later : i < k). rest.before k (omega (arith, later)) c)
          (λ (le : k ≤ i). subst (λ (p : ℕ). LiesInside low high (iov_at front b p)) (same i k a le) (inside_true low high (iov_at front b i) first))
          (cases_lt i k);
    }

-- ==== the command descriptor block

pub record IsCdbAt (front : List ℕ) (low high off : ℕ) (cdb : List ℕ) : Type 0 where
  pub inside : CdbInside front low high off
  pub bytes : cdb ≡ take (group_length (slice_index front off)) (drop off front)

cdb_some : (front : List ℕ) (low high off : ℕ) (cdb : List ℕ) → cdb_at front low high off ≡ Some cdb → IsCdbAt front low high off cdb
unfolding cdb_at
cdb_some front low high off cdb h =
    let g = both (nat_le low off) (nat_lt off high) _ cdb h in
    let k = one (nat_le (off + group_length (slice_index front off)) high) _ cdb g.2 in
    record {
      inside = record { starts = is_most _ _ g.0; some = is_below _ _ g.1; ends = is_most _ _ k.0 };
      bytes = sym k.1;
    }
  where
    both : (t u : Bool) (o : Option (List ℕ)) (c : List ℕ) → cond (t && u) o None ≡ Some c → (t ≡ true) × (u ≡ true) × (o ≡ Some c)
    both true true o c h = (refl, refl, h)
    both true false o c h = cc
    both false u o c h = cc

    one : (t : Bool) (x c : List ℕ) → cond t (Some x) None ≡ Some c → (t ≡ true) × (x ≡ c)
    one true x c h = (refl, cc)
    one false x c h = cc

cdb_none : (front : List ℕ) (low high off : ℕ) → cdb_at front low high off ≡ None → CdbInside front low high off → ⊥
unfolding cdb_at
cdb_none front low high off h within =
    let t1 : nat_le low off ≡ true = most_is low off within.starts in
    let t2 : nat_lt off high ≡ true = below_is off high within.some in
    let t3 : nat_le (off + group_length (slice_index front off)) high ≡ true = most_is _ high within.ends in
    let there : cdb_at front low high off ≡ Some (take (group_length (slice_index front off)) (drop off front)) = rw (t1, t2, t3) refl in
    contrary (sym h ∙ there)
  where
    most_is : (a b : ℕ) → a ≤ b → nat_le a b ≡ true
    most_is a b h = grind (arith, nat_tests)

    below_is : (a b : ℕ) → a < b → nat_lt a b ≡ true
    below_is a b h = grind (arith, nat_tests)

    contrary : {x : List ℕ} → ◌≡◌ {A = Option (List ℕ)} None (Some x) → ⊥
    contrary h = cc

-- ==== rules that are kept before place n

record Kept (front : List ℕ) (area : ℕ) (m : Mailbox) (at n : ℕ) : Type 0 where
  long : 0 < n → least_of (op_at front (128 + at)) ≤ len_at front (128 + at)
  near : 1 < n → len_at front (128 + at) ≤ limit_of m at
  counts : 2 < n → op_at front (128 + at) ≡ 1
      → (48 + 16 * iov_cnt_at front (128 + at) < len_at front (128 + at)) × (bidi_cnt_at front (128 + at) ≡ 0) × (dif_cnt_at front (128 + at) ≡ 0)
  ids : 2 < n → op_at front (128 + at) ≡ 2 → 32 + 2 * id_cnt_at front (128 + at) ≤ len_at front (128 + at)
  cdb : 3 < n → op_at front (128 + at) ≡ 1
      → CdbInside front (128 + at + 48 + 16 * iov_cnt_at front (128 + at)) (128 + at + len_at front (128 + at)) (cdb_off_at front (128 + at))
  iovs : 4 < n → op_at front (128 + at) ≡ 1 → (k : ℕ) → k < iov_cnt_at front (128 + at)
      → LiesInside (data_start m.cmdr_size) (data_start m.cmdr_size + area) (iov_at front (128 + at) k)

counts_kept : (front : List ℕ) (b n : ℕ)
    → (48 + 16 * iov_cnt_at front b < len_at front b) × (bidi_cnt_at front b ≡ 0) × (dif_cnt_at front b ≡ 0) → BreaksCounts front b n → ⊥
counts_kept front b n k broken =
    ⊎_elim
    (λ (h : (n ≡ iov_cnt_at front b) × (len_at front b ≤ 48 + 16 * n)). omega (arith, k.0, h.0, h.1))
    (λ (h : (48 + 16 * iov_cnt_at front b < len_at front b) × (n ≢ 0) × ((n ≡ bidi_cnt_at front b) ⊎ ((bidi_cnt_at front b ≡ 0) × (n ≡ dif_cnt_at front b)))).
    ⊎_elim (λ (e : n ≡ bidi_cnt_at front b). h.1 (e ∙ k.1)) (λ (e : (bidi_cnt_at front b ≡ 0) × (n ≡ dif_cnt_at front b)). h.1 (e.1 ∙ k.2)) h.2)
    broken

later : (front : List ℕ) (area : ℕ) (m : Mailbox) (at n : ℕ) → Kept front area m at n → (other : EntryFault) → BreaksEntry front area m at other → n ≤ entry_rank other
later front area m at n k (BadLength len) h = kept 0 n (λ before. contrary (k.long before) h)
  where
    contrary : least_of (op_at front (128 + at)) ≤ len_at front (128 + at) → (len ≡ len_at front (128 + at)) × (len < least_of (op_at front (128 + at))) → ⊥
    contrary long h = omega (arith, long, h.0, h.1)
later front area m at n k (PastEnd len limit) h = kept 1 n (λ before. contrary (k.near before) h)
  where
    contrary : len_at front (128 + at) ≤ limit_of m at → (len ≡ len_at front (128 + at)) × (limit ≡ limit_of m at) × (limit < len) → ⊥
    contrary near h = omega (arith, near, h.0, h.1, h.2)
later front area m at n k (BadCount c) h =
    kept 2 n (λ before.
    ⊎_elim
    (λ (g : (op_at front (128 + at) ≡ 1) × BreaksCounts front (128 + at) c). counts_kept front (128 + at) c (k.counts before g.0) g.1)
    (λ (g : (op_at front (128 + at) ≡ 2) × (c ≡ id_cnt_at front (128 + at)) × (len_at front (128 + at) < 32 + 2 * c)). contrary (k.ids before g.0) g.1 g.2)
    h)
  where
    contrary : 32 + 2 * id_cnt_at front (128 + at) ≤ len_at front (128 + at) → c ≡ id_cnt_at front (128 + at) → len_at front (128 + at) < 32 + 2 * c → ⊥
    contrary room is short = omega (arith, room, is, short)
later front area m at n k (CdbOutside off) h =
    kept 3 n (λ before.
    h.2 (subst (λ (o : ℕ). CdbInside front (128 + at + 48 + 16 * iov_cnt_at front (128 + at)) (128 + at + len_at front (128 + at)) o) (sym h.1) (k.cdb before h.0)))
later front area m at n k (IovOutside i) h = kept 4 n (λ before. h.2 (k.iovs before h.0 i h.1))

found : (front : List ℕ) (area : ℕ) (m : Mailbox) (at : ℕ) (fault : EntryFault) (n : ℕ) → n ≡ entry_rank fault → BreaksEntry front area m at fault → Kept front area m at n
    → ReadsEntry front area m at (Err fault)
found front area m at fault n rank broken k =
    let first : IsFirstEntryFault front area m at fault = record {
      broken = broken;
      first = λ other h. subst (λ (r : ℕ). r ≤ entry_rank other) rank (later front area m at n k other h);
    } in
    first

rank_small : (fault : EntryFault) → 5 ≤ entry_rank fault → ⊥
rank_small (BadLength len) h = omega (arith, h)
rank_small (PastEnd len limit) h = omega (arith, h)
rank_small (BadCount n) h = omega (arith, h)
rank_small (CdbOutside off) h = omega (arith, h)
rank_small (IovOutside i) h = omega (arith, h)

read : (front : List ℕ) (area : ℕ) (m : Mailbox) (at : ℕ) (entry : EntryRef) → SaysEntry front (128 + at) entry → Kept front area m at 5
    → ReadsEntry front area m at (Ok entry)
read front area m at entry says k =
    let none : SaysEntry front (128 + at) entry × ((fault : EntryFault) → BreaksEntry front area m at fault → ⊥) =
    (says, λ fault h. rank_small fault (later front area m at 5 k fault h)) in
    none

-- ==== the chain of tests

step : {E : Type 0} (P : Result E EntryFault → Type 0) (b : Bool) (fault : EntryFault) (rest r : Result E EntryFault) → cond b (Err fault) rest ≡ r
    → (b ≡ true → P (Err fault)) → (b ≡ false → rest ≡ r → P r) → P r
step P true fault rest r h hit miss = subst P h (hit refl)
step P false fault rest r h hit miss = miss refl h

choice : {E : Type 0} (P : Result E EntryFault → Type 0) (b : Bool) (x y r : Result E EntryFault) → cond b x y ≡ r
    → (b ≡ true → x ≡ r → P r) → (b ≡ false → y ≡ r → P r) → P r
choice P true x y r h one other = one refl h
choice P false x y r h one other = other refl h

kept_0 : (front : List ℕ) (area : ℕ) (m : Mailbox) (at : ℕ)
    → Kept front area m at 0
kept_0 front area m at = record {
  long = past 0 0 (omega arith);
  near = past 1 0 (omega arith);
  counts = past 2 0 (omega arith);
  ids = past 2 0 (omega arith);
  cdb = past 3 0 (omega arith);
  iovs = past 4 0 (omega arith);
}

kept_1 : (front : List ℕ) (area : ℕ) (m : Mailbox) (at : ℕ)
    → least_of (op_at front (128 + at)) ≤ len_at front (128 + at)
    → Kept front area m at 1
kept_1 front area m at long = record {
  long = λ _. long;
  near = past 1 1 (omega arith);
  counts = past 2 1 (omega arith);
  ids = past 2 1 (omega arith);
  cdb = past 3 1 (omega arith);
  iovs = past 4 1 (omega arith);
}

kept_2 : (front : List ℕ) (area : ℕ) (m : Mailbox) (at : ℕ)
    → least_of (op_at front (128 + at)) ≤ len_at front (128 + at)
    → len_at front (128 + at) ≤ limit_of m at
    → Kept front area m at 2
kept_2 front area m at long near = record {
  long = λ _. long;
  near = λ _. near;
  counts = past 2 2 (omega arith);
  ids = past 2 2 (omega arith);
  cdb = past 3 2 (omega arith);
  iovs = past 4 2 (omega arith);
}

kept_3 : (front : List ℕ) (area : ℕ) (m : Mailbox) (at : ℕ)
    → least_of (op_at front (128 + at)) ≤ len_at front (128 + at)
    → len_at front (128 + at) ≤ limit_of m at
    → (op_at front (128 + at) ≡ 1 → (48 + 16 * iov_cnt_at front (128 + at) < len_at front (128 + at)) × (bidi_cnt_at front (128 + at) ≡ 0) × (dif_cnt_at front (128 + at) ≡ 0))
    → (op_at front (128 + at) ≡ 2 → 32 + 2 * id_cnt_at front (128 + at) ≤ len_at front (128 + at))
    → Kept front area m at 3
kept_3 front area m at long near counts ids = record {
  long = λ _. long;
  near = λ _. near;
  counts = λ _. counts;
  ids = λ _. ids;
  cdb = past 3 3 (omega arith);
  iovs = past 4 3 (omega arith);
}

kept_4 : (front : List ℕ) (area : ℕ) (m : Mailbox) (at : ℕ)
    → least_of (op_at front (128 + at)) ≤ len_at front (128 + at)
    → len_at front (128 + at) ≤ limit_of m at
    → (op_at front (128 + at) ≡ 1 → (48 + 16 * iov_cnt_at front (128 + at) < len_at front (128 + at)) × (bidi_cnt_at front (128 + at) ≡ 0) × (dif_cnt_at front (128 + at) ≡ 0))
    → (op_at front (128 + at) ≡ 2 → 32 + 2 * id_cnt_at front (128 + at) ≤ len_at front (128 + at))
    → (op_at front (128 + at) ≡ 1 → CdbInside front (128 + at + 48 + 16 * iov_cnt_at front (128 + at)) (128 + at + len_at front (128 + at)) (cdb_off_at front (128 + at)))
    → Kept front area m at 4
kept_4 front area m at long near counts ids cdb = record {
  long = λ _. long;
  near = λ _. near;
  counts = λ _. counts;
  ids = λ _. ids;
  cdb = λ _. cdb;
  iovs = past 4 4 (omega arith);
}

kept_5 : (front : List ℕ) (area : ℕ) (m : Mailbox) (at : ℕ)
    → least_of (op_at front (128 + at)) ≤ len_at front (128 + at)
    → len_at front (128 + at) ≤ limit_of m at
    → (op_at front (128 + at) ≡ 1 → (48 + 16 * iov_cnt_at front (128 + at) < len_at front (128 + at)) × (bidi_cnt_at front (128 + at) ≡ 0) × (dif_cnt_at front (128 + at) ≡ 0))
    → (op_at front (128 + at) ≡ 2 → 32 + 2 * id_cnt_at front (128 + at) ≤ len_at front (128 + at))
    → (op_at front (128 + at) ≡ 1 → CdbInside front (128 + at + 48 + 16 * iov_cnt_at front (128 + at)) (128 + at + len_at front (128 + at)) (cdb_off_at front (128 + at)))
    → (op_at front (128 + at) ≡ 1 → (k : ℕ) → k < iov_cnt_at front (128 + at) → LiesInside (data_start m.cmdr_size) (data_start m.cmdr_size + area) (iov_at front (128 + at) k))
    → Kept front area m at 5
kept_5 front area m at long near counts ids cdb iovs = record {
  long = λ _. long;
  near = λ _. near;
  counts = λ _. counts;
  ids = λ _. ids;
  cdb = λ _. cdb;
  iovs = λ _. iovs;
}

one_not_two : ◌≢◌ {A = ℕ} 1 2
one_not_two h = cc

-- a command's entry whose length is right
command_exactly : (front : List ℕ) (area : ℕ) (m : Mailbox) (at : ℕ) (r : Result EntryRef EntryFault) → op_at front (128 + at) ≡ 1
    → least_of (op_at front (128 + at)) ≤ len_at front (128 + at) → len_at front (128 + at) ≤ limit_of m at
    → command_read front area (data_start m.cmdr_size) (128 + at) (len_at front (128 + at)) ≡ r → ReadsEntry front area m at r
unfolding command_read
command_exactly front area m at r op long near h =
    let b : ℕ = 128 + at in
    let P : Result EntryRef EntryFault → Type 0 = λ w. ReadsEntry front area m at w in
    let low : ℕ = b + 48 + 16 * iov_cnt_at front b in
    let high : ℕ = b + len_at front b in
    let start : ℕ = data_start m.cmdr_size in
    let no_ids : op_at front b ≡ 2 → 32 + 2 * id_cnt_at front b ≤ len_at front b = λ two. absurd (one_not_two (sym op ∙ two)) in
    step P (nat_le (len_at front b) (48 + 16 * iov_cnt_at front b)) (BadCount (iov_cnt_at front b)) _ r h
    (λ t. found front area m at (BadCount (iov_cnt_at front b)) 2 refl (inl (op, inl (refl, is_most _ _ t))) (kept_2 front area m at long near)) (λ t0 h0.
    let below : 48 + 16 * iov_cnt_at front b < len_at front b = not_most _ _ t0 in
    step P (not (bidi_cnt_at front b == 0)) (BadCount (bidi_cnt_at front b)) _ r h0
    (λ t. found front area m at (BadCount (bidi_cnt_at front b)) 2 refl (inl (op, inr (below, differs _ _ t, inl refl))) (kept_2 front area m at long near)) (λ t1 h1.
    step P (not (dif_cnt_at front b == 0)) (BadCount (dif_cnt_at front b)) _ r h1
    (λ t. found front area m at (BadCount (dif_cnt_at front b)) 2 refl (inl (op, inr (below, differs _ _ t, inr (is_same _ _ t1, refl)))) (kept_2 front area m at long near)) (λ t2 h2.
    let counts : op_at front b ≡ 1 → (48 + 16 * iov_cnt_at front b < len_at front b) × (bidi_cnt_at front b ≡ 0) × (dif_cnt_at front b ≡ 0) = λ _. (below, is_same _ _ t1, is_same _ _ t2) in
    by_cdb (cdb_at front low high (cdb_off_at front b)) refl counts no_ids h2)))
  where
    by_iov : (cdb : List ℕ) → IsCdbAt front (128 + at + 48 + 16 * iov_cnt_at front (128 + at)) (128 + at + len_at front (128 + at)) (cdb_off_at front (128 + at)) cdb
        → (o : Option ℕ) → first_outside front (128 + at) (data_start m.cmdr_size) (data_start m.cmdr_size + area) 0 (iov_cnt_at front (128 + at)) ≡ o
        → (op_at front (128 + at) ≡ 1 → (48 + 16 * iov_cnt_at front (128 + at) < len_at front (128 + at)) × (bidi_cnt_at front (128 + at) ≡ 0) × (dif_cnt_at front (128 + at) ≡ 0)) → (op_at front (128 + at) ≡ 2 → 32 + 2 * id_cnt_at front (128 + at) ≤ len_at front (128 + at))
        → where_outside (Cmd (len_at front (128 + at)) (id_at front (128 + at)) (iov_cnt_at front (128 + at)) cdb) o ≡ r → ReadsEntry front area m at r
    by_iov cdb at_cdb None is counts ids h =
        subst (λ (w : Result EntryRef EntryFault). ReadsEntry front area m at w) h
        (read front area m at (Cmd (len_at front (128 + at)) (id_at front (128 + at)) (iov_cnt_at front (128 + at)) cdb) (op, refl, refl, refl, at_cdb.bytes)
        (kept_5 front area m at long near counts ids (λ _. at_cdb.inside) (λ _ k below. outside_none _ _ _ _ 0 _ is k (omega arith) (omega (arith, below)))))
    by_iov cdb at_cdb (Some i) is counts ids h =
        let out = outside_some _ _ _ _ 0 _ i is in
        subst (λ (w : Result EntryRef EntryFault). ReadsEntry front area m at w) h
        (found front area m at (IovOutside i) 4 refl (op, omega (arith, out.below), out.out, λ k below. out.before k (omega arith) below)
        (kept_4 front area m at long near counts ids (λ _. at_cdb.inside)))

    by_cdb : (o : Option (List ℕ)) → cdb_at front (128 + at + 48 + 16 * iov_cnt_at front (128 + at)) (128 + at + len_at front (128 + at)) (cdb_off_at front (128 + at)) ≡ o
        → (op_at front (128 + at) ≡ 1 → (48 + 16 * iov_cnt_at front (128 + at) < len_at front (128 + at)) × (bidi_cnt_at front (128 + at) ≡ 0) × (dif_cnt_at front (128 + at) ≡ 0)) → (op_at front (128 + at) ≡ 2 → 32 + 2 * id_cnt_at front (128 + at) ≤ len_at front (128 + at))
        → with_cdb front area (data_start m.cmdr_size) (128 + at) (len_at front (128 + at)) o ≡ r → ReadsEntry front area m at r
    by_cdb None is counts ids h =
        subst (λ (w : Result EntryRef EntryFault). ReadsEntry front area m at w) h
        (found front area m at (CdbOutside (cdb_off_at front (128 + at))) 3 refl (op, refl, cdb_none _ _ _ _ is) (kept_3 front area m at long near counts ids))
    by_cdb (Some cdb) is counts ids h =
        let at_cdb = cdb_some _ _ _ _ cdb is in
        by_iov cdb at_cdb (first_outside front (128 + at) (data_start m.cmdr_size) (data_start m.cmdr_size + area) 0 (iov_cnt_at front (128 + at))) refl counts ids h

-- an entry of any other opcode
plain : (front : List ℕ) (area : ℕ) (m : Mailbox) (at : ℕ) → least_of (op_at front (128 + at)) ≤ len_at front (128 + at) → len_at front (128 + at) ≤ limit_of m at → op_at front (128 + at) ≢ 1 → (op_at front (128 + at) ≡ 2 → 32 + 2 * id_cnt_at front (128 + at) ≤ len_at front (128 + at)) → Kept front area m at 5
plain front area m at long near other ids = kept_5 front area m at long near (λ op. absurd (other op)) ids (λ op. absurd (other op)) (λ op. absurd (other op))

pub reads_exactly : (front : List ℕ) (area : ℕ) (m : Mailbox) (at : ℕ) (r : Result EntryRef EntryFault) → entry_read front area m at ≡ r → ReadsEntry front area m at r
unfolding entry_read sized_read kind_read tmr_read
reads_exactly front area m at r h =
    let b : ℕ = 128 + at in
    let op : ℕ = op_at front b in
    let len : ℕ = len_at front b in
    let P : Result EntryRef EntryFault → Type 0 = λ w. ReadsEntry front area m at w in
    step P (nat_lt len (least_of op)) (BadLength len) _ r h
    (λ t. found front area m at (BadLength len) 0 refl (refl, is_below _ _ t) (kept_0 front area m at)) (λ t0 h0.
    let long : least_of op ≤ len = not_below _ _ t0 in
    step P (nat_lt (limit_of m at) len) (PastEnd len (limit_of m at)) _ r h0
    (λ t. found front area m at (PastEnd len (limit_of m at)) 1 refl (refl, refl, is_below _ _ t) (kept_1 front area m at long)) (λ t1 h1.
    let near : len ≤ limit_of m at = not_below _ _ t1 in
    choice P (op == 0) (Ok (Pad len)) _ r h1
    (λ t e. let zero_op : op ≡ 0 = is_op _ _ t in
    subst P e (read front area m at (Pad len) (zero_op, refl) (plain front area m at long near (λ one. absurd (zero_not 0 (sym zero_op ∙ one))) (λ two. absurd (zero_not 1 (sym zero_op ∙ two))))))
    (λ t2 h2.
    choice P (op == 1) (command_read front area (data_start m.cmdr_size) b len) _ r h2
    (λ t e. command_exactly front area m at r (is_op _ _ t) long near e)
    (λ t3 h3. let not_one : op ≢ 1 = is_not _ _ t3 in
    choice P (op == 2) (tmr_read front b len) _ r h3
    (λ t e. let two : op ≡ 2 = is_op _ _ t in
    step P (nat_lt len (32 + 2 * id_cnt_at front b)) (BadCount (id_cnt_at front b)) _ r e
    (λ u. found front area m at (BadCount (id_cnt_at front b)) 2 refl (inr (two, refl, is_below _ _ u)) (kept_2 front area m at long near))
    (λ u e2. subst P e2 (read front area m at (Tmr len (kind_at front b) (id_cnt_at front b)) (two, refl, refl, refl) (plain front area m at long near not_one (λ _. not_below _ _ u)))))
    (λ t4 h4. subst P h4 (read front area m at (Unknown op len) (refl, above op (is_not _ _ t2) not_one (is_not _ _ t4), refl) (plain front area m at long near not_one (λ two. absurd (is_not _ _ t4 two)))))))))
  where
    is_op : (a b : ℕ) → a == b ≡ true → a ≡ b
    is_op a b t = grind (arith, nat_tests)

    equal : (a b : ℕ) → a ≡ b → a == b ≡ true
    equal a b e = grind (arith, nat_tests)

    contrary : {t : Bool} → t ≡ true → t ≡ false → ⊥
    contrary e f = cc

    is_not : (a b : ℕ) → a == b ≡ false → a ≢ b
    is_not a b t = λ (e : a ≡ b). contrary (equal a b e) t

    zero_not : (n : ℕ) → 0 ≡ suc n → ⊥
    zero_not n h = cc

    above : (op : ℕ) → op ≢ 0 → op ≢ 1 → op ≢ 2 → 2 < op
    above op a b c = grind arith

-- ==== the bounds of what was accepted

least_is : (op n : ℕ) → op ≡ n → least_of op ≡ least_of n
least_is op n h = ap least_of h

least_values : (least_of 1 ≡ 112) × (least_of 2 ≡ 32)
unfolding least_of
least_values = (refl, refl)

keeps : (front : List ℕ) (area : ℕ) (m : Mailbox) (at : ℕ) (entry : EntryRef) → SaysEntry front (128 + at) entry → ((fault : EntryFault) → BreaksEntry front area m at fault → ⊥)
    → KeepsBounds front area m at entry
keeps front area m at entry says none =
    let long : least_of (op_at front (128 + at)) ≤ len_at front (128 + at) =
    ⊎_elim (λ (short : len_at front (128 + at) < least_of (op_at front (128 + at))). absurd (none (BadLength (len_at front (128 + at))) (refl, short))) (λ (le : least_of (op_at front (128 + at)) ≤ len_at front (128 + at)). le) (cases_lt (len_at front (128 + at)) (least_of (op_at front (128 + at)))) in
    let near : len_at front (128 + at) ≤ limit_of m at =
    ⊎_elim (λ (far : limit_of m at < len_at front (128 + at)). absurd (none (PastEnd (len_at front (128 + at)) (limit_of m at)) (refl, refl, far))) (λ (le : len_at front (128 + at) ≤ limit_of m at). le) (cases_lt (limit_of m at) (len_at front (128 + at))) in
    by_kind entry says long near
  where
    some_inside : (o : Option ℕ) → first_outside front (128 + at) (data_start m.cmdr_size) (data_start m.cmdr_size + area) 0 (iov_cnt_at front (128 + at)) ≡ o → op_at front (128 + at) ≡ 1
        → (k : ℕ) → k < iov_cnt_at front (128 + at) → LiesInside (data_start m.cmdr_size) (data_start m.cmdr_size + area) (iov_at front (128 + at) k)
    some_inside None is op k below = outside_none _ _ _ _ 0 _ is k (omega arith) (omega (arith, below))
    some_inside (Some i) is op k below =
        let out = outside_some _ _ _ _ 0 _ i is in
        absurd (none (IovOutside i) (op, omega (arith, out.below), out.out, λ j less. out.before j (omega arith) less))

    by_kind : (e : EntryRef) → SaysEntry front (128 + at) e → least_of (op_at front (128 + at)) ≤ len_at front (128 + at) → len_at front (128 + at) ≤ limit_of m at → KeepsBounds front area m at e
    by_kind (Pad len) says long near = (omega (arith, long, says.1, least_eight (op_at front (128 + at))), omega (arith, near, says.1))
    by_kind (Cmd len id n cdb) says long near =
        let least : least_of (op_at front (128 + at)) ≡ 112 = least_is _ 1 says.0 ∙ least_values.0 in
        let room : 48 + 16 * iov_cnt_at front (128 + at) < len_at front (128 + at) =
        ⊎_elim (λ (less : 48 + 16 * iov_cnt_at front (128 + at) < len_at front (128 + at)). less)
        (λ (le : len_at front (128 + at) ≤ 48 + 16 * iov_cnt_at front (128 + at)). absurd (none (BadCount (iov_cnt_at front (128 + at))) (inl (says.0, inl (refl, le)))))
        (cases_lt (48 + 16 * iov_cnt_at front (128 + at)) (len_at front (128 + at))) in (
          omega (arith, long, least, says.1),
          omega (arith, near, says.1),
          omega (arith, room, says.1, says.3),
          λ k below. some_inside _ refl says.0 k (omega (arith, below, says.3)),
        )
    by_kind (Tmr len kind count) says long near =
        let least : least_of (op_at front (128 + at)) ≡ 32 = least_is _ 2 says.0 ∙ least_values.1 in
        let room : 32 + 2 * id_cnt_at front (128 + at) ≤ len_at front (128 + at) =
        ⊎_elim (λ (less : len_at front (128 + at) < 32 + 2 * id_cnt_at front (128 + at)). absurd (none (BadCount (id_cnt_at front (128 + at))) (inr (says.0, refl, less))))
        (λ (le : 32 + 2 * id_cnt_at front (128 + at) ≤ len_at front (128 + at)). le)
        (cases_lt (len_at front (128 + at)) (32 + 2 * id_cnt_at front (128 + at))) in
        (omega (arith, long, least, says.1), omega (arith, near, says.1), omega (arith, room, says.1, says.3))
    by_kind (Unknown op len) says long near = (omega (arith, long, says.2, least_eight (op_at front (128 + at))), omega (arith, near, says.2))

pub reads_bounded : (front : List ℕ) (area : ℕ) (m : Mailbox) (at : ℕ) (r : Result EntryRef EntryFault) → ReadsEntry front area m at r
    → IfOk r (λ entry. KeepsBounds front area m at entry)
reads_bounded front area m at (Ok entry) h = keeps front area m at entry h.0 h.1
reads_bounded front area m at (Err fault) h = tt
