-- A mailbox is read exactly: each answer with its cause.
use Rattle.std.proofs.Common.{◌≡◌, inl, inr, ⊎_elim, ℕ, ◌%◌, ◌≤◌, ◌<◌, not, nat_le, Bool, true, false, List, length, Result, Ok, Err, cond, refl, sym, ◌∙◌, arith, subst}
use Rattle.std.specs.Prelude.{IfOk}
use Rattle.std.proofs.lemmas.Bool.{cases_lt}
use Rattle.std.proofs.lemmas.Bool.Decides.{nat_tests}
use Rattle.tcmu_types.proofs.Readings.{same_ok}
use Rattle.tcmu_types.proofs.Guards.{guard_ok, differs, is_same, is_below, not_below, is_most, not_most}
use Rattle.region_model.proofs.RingSizes.{is_ring_sized}
use Rattle.region_model.specs.declared.mailbox.Mailbox.{Mailbox}
use Rattle.region_model.specs.declared.mailbox.MailboxFault.{MailboxFault}
use Rattle.region_model.specs.declared.mailbox.MailboxFault.TheVariants.{Short, Version, Offset, Size, Unaligned, OutOfRing}
use Rattle.region_model.specs.MailboxReading.{mailbox_in, mailbox_read, judged, is_ring_size, HeadElseTail, BreaksMailbox, mailbox_rank, IsFirstMailboxFault, ReadsMailbox, IsMailbox}
use Rattle.tcmu_types.specs.Rules.{IsRingSize}

-- a rule that is kept, where it stands before place n, is not the one broken
pub kept : (k n : ℕ) → (k < n → ⊥) → n ≤ k
kept k n never = ⊎_elim (λ (before : k < n). absurd (never before)) (λ (le : n ≤ k). le) (cases_lt k n)

neither : (P : ℕ → Type 0) (m : Mailbox) (n : ℕ) → P m.head → P m.tail → HeadElseTail P m n → ⊥
neither P m n head tail broken = ⊎_elim (λ (h : (n ≡ m.head) × ¬ P m.head). h.1 head) (λ (t : P m.head × (n ≡ m.tail) × ¬ P m.tail). t.2 tail) broken

-- the rules before place n are kept
record Kept (xs : List ℕ) (n : ℕ) : Type 0 where
  long : 0 < n → 128 ≤ length xs
  version : 1 < n → (mailbox_in xs).version ≡ 2
  offset : 2 < n → (mailbox_in xs).cmdr_off ≡ 128
  size : 3 < n → IsRingSize (mailbox_in xs).cmdr_size
  aligned : 4 < n → ((mailbox_in xs).head % 8 ≡ 0) × ((mailbox_in xs).tail % 8 ≡ 0)
  inside : 5 < n → ((mailbox_in xs).head < (mailbox_in xs).cmdr_size) × ((mailbox_in xs).tail < (mailbox_in xs).cmdr_size)

later : (xs : List ℕ) (n : ℕ) → Kept xs n → (other : MailboxFault) → BreaksMailbox xs other → n ≤ mailbox_rank other
later xs n k (Short s) h = kept 0 n (λ before. contrary (k.long before) h)
  where
    contrary : 128 ≤ length xs → (s ≡ length xs) × (s < 128) → ⊥
    contrary long h = omega (arith, h.0, h.1)
later xs n k (Version v) h = kept 1 n (λ before. h.1 (h.0 ∙ k.version before))
later xs n k (Offset o) h = kept 2 n (λ before. h.1 (h.0 ∙ k.offset before))
later xs n k (Size s) h = kept 3 n (λ before. h.1 (subst IsRingSize (sym h.0) (k.size before)))
later xs n k (Unaligned u) h = kept 4 n (λ before. neither (λ (j : ℕ). j % 8 ≡ 0) (mailbox_in xs) u (k.aligned before).0 (k.aligned before).1 h)
later xs n k (OutOfRing u) h = kept 5 n (λ before. neither (λ (j : ℕ). j < (mailbox_in xs).cmdr_size) (mailbox_in xs) u (k.inside before).0 (k.inside before).1 h)

-- a place that is not before n
pub past : {A : Type 0} (k n : ℕ) → n ≤ k → k < n → A
past k n le before = absurd (omega arith)

kept_0 : (xs : List ℕ) → Kept xs 0
kept_0 xs = record {
  long = past 0 0 (omega arith);
  version = past 1 0 (omega arith);
  offset = past 2 0 (omega arith);
  size = past 3 0 (omega arith);
  aligned = past 4 0 (omega arith);
  inside = past 5 0 (omega arith);
}

kept_1 : (xs : List ℕ) → 128 ≤ length xs → Kept xs 1
kept_1 xs long = record {
  long = λ _. long;
  version = past 1 1 (omega arith);
  offset = past 2 1 (omega arith);
  size = past 3 1 (omega arith);
  aligned = past 4 1 (omega arith);
  inside = past 5 1 (omega arith);
}

kept_2 : (xs : List ℕ) → 128 ≤ length xs → (mailbox_in xs).version ≡ 2 → Kept xs 2
kept_2 xs long version = record {
  long = λ _. long;
  version = λ _. version;
  offset = past 2 2 (omega arith);
  size = past 3 2 (omega arith);
  aligned = past 4 2 (omega arith);
  inside = past 5 2 (omega arith);
}

kept_3 : (xs : List ℕ) → 128 ≤ length xs → (mailbox_in xs).version ≡ 2 → (mailbox_in xs).cmdr_off ≡ 128 → Kept xs 3
kept_3 xs long version offset = record {
  long = λ _. long;
  version = λ _. version;
  offset = λ _. offset;
  size = past 3 3 (omega arith);
  aligned = past 4 3 (omega arith);
  inside = past 5 3 (omega arith);
}

kept_4 : (xs : List ℕ) → 128 ≤ length xs → (mailbox_in xs).version ≡ 2 → (mailbox_in xs).cmdr_off ≡ 128 → IsRingSize (mailbox_in xs).cmdr_size → Kept xs 4
kept_4 xs long version offset size = record {
  long = λ _. long;
  version = λ _. version;
  offset = λ _. offset;
  size = λ _. size;
  aligned = past 4 4 (omega arith);
  inside = past 5 4 (omega arith);
}

kept_5 : (xs : List ℕ) → 128 ≤ length xs → (mailbox_in xs).version ≡ 2 → (mailbox_in xs).cmdr_off ≡ 128 → IsRingSize (mailbox_in xs).cmdr_size → ((mailbox_in xs).head % 8 ≡ 0) × ((mailbox_in xs).tail % 8 ≡ 0) → Kept xs 5
kept_5 xs long version offset size aligned = record {
  long = λ _. long;
  version = λ _. version;
  offset = λ _. offset;
  size = λ _. size;
  aligned = λ _. aligned;
  inside = past 5 5 (omega arith);
}

kept_6 : (xs : List ℕ) → 128 ≤ length xs → (mailbox_in xs).version ≡ 2 → (mailbox_in xs).cmdr_off ≡ 128 → IsRingSize (mailbox_in xs).cmdr_size → ((mailbox_in xs).head % 8 ≡ 0) × ((mailbox_in xs).tail % 8 ≡ 0) → ((mailbox_in xs).head < (mailbox_in xs).cmdr_size) × ((mailbox_in xs).tail < (mailbox_in xs).cmdr_size) → Kept xs 6
kept_6 xs long version offset size aligned inside = record {
  long = λ _. long;
  version = λ _. version;
  offset = λ _. offset;
  size = λ _. size;
  aligned = λ _. aligned;
  inside = λ _. inside;
}

no_ring_size : (n : ℕ) → not (is_ring_size n) ≡ true → ¬ IsRingSize n
no_ring_size n test = λ (ring : IsRingSize n). contrary (tests n ring.least ring.most ring.pages) test
  where
    tests : (n : ℕ) → 4096 ≤ n → n ≤ 4194304 → n % 4096 ≡ 0 → not (is_ring_size n) ≡ false
    tests n least most pages = grind (arith, nat_tests)

    contrary : {b : Bool} → b ≡ false → b ≡ true → ⊥
    contrary e f = cc

not_inside : (n size : ℕ) → nat_le size n ≡ true → ¬ (n < size)
not_inside n size test = λ (less : n < size). above (is_most size n test) less
  where
    above : size ≤ n → n < size → ⊥
    above most less = omega (arith, most, less)

found : (xs : List ℕ) (fault : MailboxFault) (n : ℕ) → n ≡ mailbox_rank fault → BreaksMailbox xs fault → Kept xs n → IsFirstMailboxFault xs fault
found xs fault n rank broken k = record {
  broken = broken;
  first = λ other h. subst (λ (r : ℕ). r ≤ mailbox_rank other) rank (later xs n k other h);
}

rank_small : (fault : MailboxFault) → ¬ (6 ≤ mailbox_rank fault)
rank_small (Short n) = λ (h : 6 ≤ 0). omega (arith, h)
rank_small (Version n) = λ (h : 6 ≤ 1). omega (arith, h)
rank_small (Offset n) = λ (h : 6 ≤ 2). omega (arith, h)
rank_small (Size n) = λ (h : 6 ≤ 3). omega (arith, h)
rank_small (Unaligned n) = λ (h : 6 ≤ 4). omega (arith, h)
rank_small (OutOfRing n) = λ (h : 6 ≤ 5). omega (arith, h)

-- one test of the chain
step : (xs : List ℕ) (b : Bool) (fault : MailboxFault) (rest r : Result Mailbox MailboxFault) → cond b (Err fault) rest ≡ r
    → (b ≡ true → IsFirstMailboxFault xs fault) → (b ≡ false → rest ≡ r → ReadsMailbox xs r) → ReadsMailbox xs r
step xs true fault rest r h hit miss = subst (λ (w : Result Mailbox MailboxFault). ReadsMailbox xs w) h (hit refl)
step xs false fault rest r h hit miss = miss refl h

pub reads_exactly : (xs : List ℕ) (r : Result Mailbox MailboxFault) → mailbox_read xs ≡ r → ReadsMailbox xs r
unfolding mailbox_read judged
reads_exactly xs r h =
    let m = mailbox_in xs in
    step xs _ _ _ r h (λ t. found xs (Short (length xs)) 0 refl (refl, is_below _ _ t) (kept_0 xs)) (λ t0 h0.
    let long = not_below _ _ t0 in
    step xs _ _ _ r h0 (λ t. found xs (Version m.version) 1 refl (refl, differs _ _ t) (kept_1 xs long)) (λ t1 h1.
    let version = is_same _ _ t1 in
    step xs _ _ _ r h1 (λ t. found xs (Offset m.cmdr_off) 2 refl (refl, differs _ _ t) (kept_2 xs long version)) (λ t2 h2.
    let offset = is_same _ _ t2 in
    step xs _ _ _ r h2 (λ t. found xs (Size m.cmdr_size) 3 refl (refl, no_ring_size _ t) (kept_3 xs long version offset)) (λ t3 h3.
    let size = is_ring_sized _ t3 in
    step xs _ _ _ r h3 (λ t. found xs (Unaligned m.head) 4 refl (inl (refl, differs _ _ t)) (kept_4 xs long version offset size)) (λ t4 h4.
    let head = is_same _ _ t4 in
    step xs _ _ _ r h4 (λ t. found xs (Unaligned m.tail) 4 refl (inr (head, refl, differs _ _ t)) (kept_4 xs long version offset size)) (λ t5 h5.
    let aligned : (m.head % 8 ≡ 0) × (m.tail % 8 ≡ 0) = (head, is_same _ _ t5) in
    step xs _ _ _ r h5 (λ t. found xs (OutOfRing m.head) 5 refl (inl (refl, not_inside _ _ t)) (kept_5 xs long version offset size aligned)) (λ t6 h6.
    let below = not_most _ _ t6 in
    step xs _ _ _ r h6 (λ t. found xs (OutOfRing m.tail) 5 refl (inr (below, refl, not_inside _ _ t)) (kept_5 xs long version offset size aligned)) (λ t7 h7.
    let inside : (m.head < m.cmdr_size) × (m.tail < m.cmdr_size) = (below, not_most _ _ t7) in
    subst (λ (w : Result Mailbox MailboxFault). ReadsMailbox xs w) h7
    (refl, λ fault broken. rank_small fault (later xs 6 (kept_6 xs long version offset size aligned inside) fault broken))))))))))

-- a mailbox that was read breaks no rule
sound : (xs : List ℕ) (m : Mailbox) → mailbox_read xs ≡ Ok m → IsMailbox m
unfolding mailbox_read judged
sound xs m h =
    let g0 = guard_ok _ _ _ _ h in
    let g1 = guard_ok _ _ _ _ g0.1 in
    let g2 = guard_ok _ _ _ _ g1.1 in
    let g3 = guard_ok _ _ _ _ g2.1 in
    let g4 = guard_ok _ _ _ _ g3.1 in
    let g5 = guard_ok _ _ _ _ g4.1 in
    let g6 = guard_ok _ _ _ _ g5.1 in
    let g7 = guard_ok _ _ _ _ g6.1 in
    let whole : IsMailbox (mailbox_in xs) = record {
      version = is_same _ _ g1.0;
      cmdr_off = is_same _ _ g2.0;
      ring = is_ring_sized _ g3.0;
      head_aligned = is_same _ _ g4.0;
      tail_aligned = is_same _ _ g5.0;
      head_inside = not_most _ _ g6.0;
      tail_inside = not_most _ _ g7.0;
    } in
    subst (λ (w : Mailbox). IsMailbox w) (same_ok _ _ g7.1) whole

pub read_sound : (xs : List ℕ) (r : Result Mailbox MailboxFault) → mailbox_read xs ≡ r → IfOk r (λ m. IsMailbox m)
read_sound xs (Ok m) h = sound xs m h
read_sound xs (Err f) h = tt
