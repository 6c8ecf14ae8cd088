-- The user side's counts over any bytes: they and its records are of the same entries.
use Rattle.std.proofs.Common.{◌≡◌, ◌≢◌, ℕ, ◌+◌, ◌-◌, ◌%◌, ◌<◌, ◌≤◌, ◌==◌, not, Bool, true, false, cond, List, [], ◌∷◌, ◌++◌, length, take, drop, suc, Option, Some, None, Result, Ok, Err, refl, sym, ap, ◌∙◌, arith, subst, ⊎_elim, length-append, length-drop}
use Rattle.std.specs.List.{count_by, sum_by, list_any}
use Rattle.std.specs.Option.{is_some}
use Rattle.std.proofs.Math.Nat.{mod-add-mod, mod-eq_of_lt}
use Rattle.std.proofs.lemmas.Bool.{cases_Bool, and_parts, eqb-false, false≢true}
use Rattle.std.proofs.lemmas.List.Sums.{sum_by-cons, sum_by-append, sum_by-take-drop}
use Rattle.tcmu_types.proofs.Readings.{same_ok}
use Rattle.tcmu_types.specs.declared.dump.ItemKind.{ItemKind}
use Rattle.tcmu_types.specs.declared.dump.ItemKind.TheVariants as kind
use Rattle.region_model.specs.declared.mailbox.Mailbox.{Mailbox}
use Rattle.region_model.specs.declared.mailbox.MailboxFault.{MailboxFault}
use Rattle.tcmu_types.specs.Lists.{first_of, without_first, with_first}
use Rattle.region_model.specs.Regions.{RegionState}
use Rattle.region_model.specs.Sides.{GivenJob, Parked, Recorded, UserState}
use Rattle.region_model.specs.UserSteps.{Placing, is_cmd, is_open_job, is_unanswered, movable, moving, moving_items, placed_at, placed_front, placed_one, placing_by, user_abandoned, user_attached, user_mailbox, user_of, user_published, user_responded, attached_to, with_jobs, with_parked}
use Rattle.region_model.specs.UserNext.{with_passed, with_job, nexted}
use Rattle.tcmu_types.proofs.Counts.{sum-with_first_less, sum-without_first}
use Rattle.tcmu_types.proofs.Firsts.{length-with_first, first-passes}
use Rattle.ring_laws.specs.UserKept.{UserCounts, UsesEntries}
use Rattle.ring_laws.proofs.jobs_in_hand.HandTells.{some_first}
use Rattle.ring_laws.proofs.user_over_any_bytes.AnyAttached.{attached_sound}
use Rattle.ring_laws.proofs.user_over_any_bytes.AnyUsers.{next_user}
use Rattle.ring_laws.proofs.target_over_any_bytes.AnyRows.{commands, commands-append, commands-cons, one_less}

-- ==== entries that are passed

abbrev lengths : List Recorded → ℕ
lengths xs = sum_by (λ (x : Recorded). x.len) xs

passed_reach : (u : UserState) (k : ItemKind) (len : ℕ) → UserCounts u → (with_passed u k len).place ≡ (u.tail + lengths (with_passed u k len).items) % u.ring
passed_reach u k len h =
    let item : Recorded = record { kind = k; len = len } in
    let a : lengths (u.items ++ item ∷ []) ≡ lengths u.items + lengths (item ∷ []) = sum_by-append (λ (x : Recorded). x.len) u.items (item ∷ []) in
    let b : lengths (item ∷ []) ≡ len + 0 = sum_by-cons (λ (x : Recorded). x.len) item [] in
    let q : (u.tail + lengths u.items) + len ≡ u.tail + lengths (u.items ++ item ∷ []) = omega (arith, a, b) in
    ap (λ n. (n + len) % u.ring) h.reach ∙ mod-add-mod (u.tail + lengths u.items) u.ring len ∙ ap (λ n. n % u.ring) q

passed_commands : (u : UserState) (k : ItemKind) (len c : ℕ) → commands (record { kind = k; len = len } ∷ []) ≡ c → commands (with_passed u k len).items ≡ commands u.items + c
passed_commands u k len c e = commands-append u.items (record { kind = k; len = len } ∷ []) ∙ ap (λ n. commands u.items + n) e

passed_counts : (u : UserState) (k : ItemKind) (len : ℕ) → commands (record { kind = k; len = len } ∷ []) ≡ 0 → UserCounts u → UserCounts (with_passed u k len)
passed_counts u k len e h =
    record { reach = passed_reach u k len h; entries = h.entries; owed = h.owed; commands = omega (arith, passed_commands u k len 0 e, h.commands); behind = h.behind }

job_counts : (u : UserState) (len id : ℕ) → UserCounts u → UserCounts (with_job u len id)
job_counts u len id h =
    let a : length (u.offsets ++ u.place ∷ []) ≡ length u.offsets + 1 = length-append u.offsets (u.place ∷ []) in
    let g : GivenJob = record { id = id; parked = None } in
    let b : length (u.jobs ++ g ∷ []) ≡ length u.jobs + 1 = length-append u.jobs (g ∷ []) in
    record {
      reach = passed_reach u kind.Cmd len h;
      entries = omega (arith, a, h.entries);
      owed = omega (arith, a, b, h.owed);
      commands = omega (arith, passed_commands u kind.Cmd len 1 refl, h.commands);
      behind = h.behind;
    }

pub next_counts : (r : RegionState) (u : UserState) → UserCounts u → UserCounts (nexted r u).user
next_counts r u =
    next_user UserCounts r u
    (record { pad = λ v len. passed_counts v kind.Pad len refl; note = λ v len. passed_counts v kind.Tmr len refl; job = λ v len id. job_counts v len id })

-- ==== an attach, and jobs that are given up

pub attach_counts : (r : RegionState) (u : UserState) → user_attached r ≡ Ok u → UserCounts u
unfolding user_attached
attach_counts r u h = go (user_mailbox r) h
  where
    below : u.tail < u.ring
    below = (attached_sound r u h).0.tail.below

    opened : (m : Mailbox) → m.tail < m.cmdr_size → UserCounts (user_of r.pages m)
    opened m l =
        let start : m.tail + 0 ≡ m.tail = omega arith in
        record { reach = sym (ap (λ n. n % m.cmdr_size) start ∙ mod-eq_of_lt l); entries = refl; owed = omega arith; commands = refl; behind = omega arith }

    go : (o : Result Mailbox MailboxFault) → attached_to r.pages o ≡ Ok u → UserCounts u
    go (Err fault) q = absurd (cc)
    go (Ok m) q =
        let e : user_of r.pages m ≡ u = same_ok (user_of r.pages m) u q in
        subst UserCounts e (opened m (subst (λ (v : UserState). v.tail < v.ring) (sym e) below))

pub abandon_counts : (u : UserState) → UserCounts u → UserCounts (user_abandoned u)
unfolding user_abandoned
abandon_counts u h = record { reach = h.reach; entries = h.entries; owed = omega arith; commands = h.commands; behind = h.behind }

-- ==== a publish

take_more : (n : ℕ) (x : Recorded) (xs : List Recorded) → commands (take (n + 1) (x ∷ xs)) ≡ cond {A = ℕ} (is_cmd x) 1 0 + commands (take n xs)
take_more n x xs = let q : n + 1 ≡ suc n = omega arith in ap (λ k. commands (take k (x ∷ xs))) q ∙ commands-cons x (take n xs)

few_moved : (n : ℕ) (xs : List Recorded) → commands (take (movable n xs) xs) ≤ n
few_moved n [] = omega arith
few_moved n (x ∷ xs) =
    ⊎_elim
    (λ (c : is_cmd x ≡ true).
    ⊎_elim
    (λ (z : (n == 0) ≡ true). rw (c, z) (omega arith))
    (λ (z : (n == 0) ≡ false).
    let some : n ≢ 0 = eqb-false n 0 z in
    let one : cond {A = ℕ} (is_cmd x) 1 0 ≡ 1 = ap (λ b. cond {A = ℕ} b 1 0) c in
    let k : commands (take (movable (n - 1) xs + 1) (x ∷ xs)) ≤ n = omega (arith, take_more (movable (n - 1) xs) x xs, one, some, few_moved (n - 1) xs) in
    rw (c, z) k)
    (cases_Bool (n == 0)))
    (λ (c : is_cmd x ≡ false).
    let none : cond {A = ℕ} (is_cmd x) 1 0 ≡ 0 = ap (λ b. cond {A = ℕ} b 1 0) c in
    let k : commands (take (movable n xs + 1) (x ∷ xs)) ≤ n = omega (arith, take_more (movable n xs) x xs, none, few_moved n xs) in
    rw c k)
    (cases_Bool (is_cmd x))

pub publish_counts : (u : UserState) → UserCounts u → UserCounts (user_published u)
unfolding user_published
publish_counts u h =
    let moved : List Recorded = moving_items u in
    let left : List Recorded = drop (moving u) u.items in
    let a : lengths moved + lengths left ≡ lengths u.items = sum_by-take-drop (λ (x : Recorded). x.len) u.items (moving u) in
    let b : commands moved + commands left ≡ commands u.items = sum_by-take-drop (λ (x : Recorded). cond {A = ℕ} (is_cmd x) 1 0) u.items (moving u) in
    let few : commands moved ≤ u.placed - u.published = few_moved (u.placed - u.published) u.items in
    let q : u.tail + lengths u.items ≡ (u.tail + lengths moved) + lengths left = omega (arith, a) in
    record {
      reach = h.reach ∙ ap (λ n. n % u.ring) q ∙ sym (mod-add-mod (u.tail + lengths moved) u.ring (lengths left));
      entries = h.entries;
      owed = h.owed;
      commands = omega (arith, b, h.commands);
      behind = omega (arith, few, h.behind);
    }

-- ==== a respond

abbrev open_jobs : List GivenJob → ℕ
open_jobs gs = count_by is_unanswered gs

abbrev weight : GivenJob → ℕ
weight g = cond {A = ℕ} (is_unanswered g) 1 0

-- answers are placed, and this many jobs fewer are without a reply
record Spent (u after : UserState) (fewer : ℕ) : Type 0 where
  n : ℕ
  uses : UsesEntries u after n
  open_ : open_jobs after.jobs + fewer ≡ open_jobs u.jobs
  rest : after ≡ record u { jobs = after.jobs; offsets = after.offsets; placed = after.placed }

spent_none : (u : UserState) → Spent u u 0
spent_none u = record { n = 0; uses = record { offsets = refl; placed = omega arith; jobs = omega arith }; open_ = omega arith; rest = refl }

-- an answer more, in the first entry
spent_more : (u after : UserState) (rest : List GivenJob) (at : ℕ) (ats : List ℕ) (fewer more : ℕ) → u.offsets ≡ at ∷ ats → length rest + 1 ≡ length u.jobs → open_jobs rest + more ≡ open_jobs u.jobs →
    Spent (record u { jobs = rest; offsets = ats; placed = u.placed + 1 }) after fewer → Spent u after (fewer + more)
spent_more u after rest at ats fewer more e j o s =
    record {
      n = suc s.n;
      uses = record { offsets = s.uses.offsets ∙ ap (drop (suc s.n)) (sym e); placed = omega (arith, s.uses.placed); jobs = omega (arith, s.uses.jobs, j) };
      open_ = omega (arith, s.open_, o);
      rest = s.rest;
    }

front_spent : (k : Placing) (gs : List GivenJob) → k.user.jobs ≡ gs → length gs ≤ length k.user.offsets → Spent k.user (placed_front k gs).user 0
front_spent k [] e l = spent_none k.user
front_spent k (g ∷ gs) e l = by_reply g.parked refl (λ p at ats f. front_spent (placed_at k p gs (at ∷ ats)) gs refl (short at ats f))
  where
    short : (at : ℕ) (ats : List ℕ) → k.user.offsets ≡ at ∷ ats → length gs ≤ length ats
    short at ats f = let m : length k.user.offsets ≡ suc (length ats) = ap length f in omega (arith, m, l)

    GoesOn : Type 0
    GoesOn = (p : Parked) (at : ℕ) (ats : List ℕ) → k.user.offsets ≡ at ∷ ats → Spent (placed_at k p gs (at ∷ ats)).user (placed_front (placed_at k p gs (at ∷ ats)) gs).user 0

    by_offsets : (p : Parked) (offsets : List ℕ) → g.parked ≡ Some p → k.user.offsets ≡ offsets → GoesOn → Spent k.user (placed_front (placed_at k p gs offsets) gs).user 0
    by_offsets p [] z f more = let m : length k.user.offsets ≡ 0 = ap length f in absurd (omega (arith, m, l))
    by_offsets p (at ∷ ats) z f more =
        let none : weight g ≡ 0 = ap (λ o. cond {A = ℕ} (not (is_some o)) 1 0) z in
        let sum : open_jobs (g ∷ gs) ≡ weight g + open_jobs gs = sum_by-cons weight g gs in
        let jobs : length k.user.jobs ≡ suc (length gs) = ap length e in
        let open_ : open_jobs k.user.jobs ≡ open_jobs (g ∷ gs) = ap open_jobs e in
        spent_more k.user (placed_front (placed_at k p gs (at ∷ ats)) gs).user gs at ats 0 0 f (omega (arith, jobs)) (omega (arith, open_, sum, none)) (more p at ats f)

    by_reply : (o : Option Parked) → g.parked ≡ o → GoesOn → Spent k.user (elim o as (λ x. Placing) [ None ↦ k | Some p ↦ placed_front (placed_one k p gs) gs ]).user 0
    by_reply None z more = spent_none k.user
    by_reply (Some p) z more = by_offsets p k.user.offsets z refl more

is_open : (id : ℕ) (g : GivenJob) → is_open_job id g ≡ true → weight g ≡ 1
is_open id g h = ap (λ b. cond {A = ℕ} b 1 0) (and_parts (g.id == id) (is_unanswered g) h).1

respond_spent : (r : RegionState) (u : UserState) (p : Parked) → UserCounts u → list_any (is_open_job p.job.id) u.jobs ≡ true → Spent u (user_responded r u p).user 1
unfolding user_responded
respond_spent r u p h a = by_order u.flags.ooo
  where
    rest : List GivenJob
    rest = without_first (is_open_job p.job.id) u.jobs

    parked : List GivenJob
    parked = with_first (is_open_job p.job.id) (with_parked p) u.jobs

    found : (o : Option GivenJob) → first_of (is_open_job p.job.id) u.jobs ≡ o → (g : GivenJob) × (first_of (is_open_job p.job.id) u.jobs ≡ Some g)
    found None e = absurd (false≢true (sym (some_first (is_open_job p.job.id) u.jobs ∙ ap is_some e) ∙ a))
    found (Some g) e = (g, e)

    -- out of order, in the first entry
    early : (offsets : List ℕ) → u.offsets ≡ offsets → (g : GivenJob) × (first_of (is_open_job p.job.id) u.jobs ≡ Some g) → Spent u (placed_at (record { region = r; user = u }) p rest offsets).user 1
    early [] e f =
        let jobs : length rest + 1 ≡ length u.jobs = one_less (is_open_job p.job.id) u.jobs f.0 f.1 in
        let none : length u.offsets ≡ 0 = ap length e in
        absurd (omega (arith, jobs, none, h.owed))
    early (at ∷ ats) e f =
        let jobs : length rest + 1 ≡ length u.jobs = one_less (is_open_job p.job.id) u.jobs f.0 f.1 in
        let sum : open_jobs rest + weight f.0 ≡ open_jobs u.jobs = sum-without_first (is_open_job p.job.id) weight u.jobs f.0 f.1 in
        let one : weight f.0 ≡ 1 = is_open p.job.id f.0 (first-passes (is_open_job p.job.id) u.jobs f.0 f.1) in
        let after : UserState = record u { jobs = rest; offsets = ats; placed = u.placed + 1 } in
        spent_more u after rest at ats 0 1 e jobs (omega (arith, sum, one)) (spent_none after)

    by_order : (b : Bool) → Spent u (placing_by b r u p).user 1
    by_order true = early u.offsets refl (found (first_of (is_open_job p.job.id) u.jobs) refl)
    by_order false =
        let k : Placing = record { region = r; user = with_jobs u parked } in
        let long : length parked ≡ length u.jobs = length-with_first (is_open_job p.job.id) (with_parked p) u.jobs in
        let s : Spent (with_jobs u parked) (placed_front k parked).user 0 = front_spent k parked refl (omega (arith, long, h.owed)) in
        let less : open_jobs parked + 1 ≡ open_jobs u.jobs = sum-with_first_less (is_open_job p.job.id) (with_parked p) weight 1 u.jobs (λ g e. sym (is_open p.job.id g e)) a in
        record {
          n = s.n;
          uses = record { offsets = s.uses.offsets; placed = s.uses.placed; jobs = omega (arith, s.uses.jobs, long) };
          open_ = omega (arith, s.open_, less);
          rest = s.rest;
        }

counts_spent : (u after : UserState) (fewer : ℕ) → UserCounts u → Spent u after fewer → UserCounts after
counts_spent u after fewer h s =
    let left : length after.offsets ≡ length u.offsets - s.n = ap length s.uses.offsets ∙ length-drop s.n u.offsets in
    let kept : UserCounts (record u { jobs = after.jobs; offsets = after.offsets; placed = after.placed }) = record {
      reach = h.reach;
      entries = omega (arith, left, s.uses.placed, s.uses.jobs, h.entries, h.owed);
      owed = omega (arith, left, s.uses.jobs, h.owed);
      commands = h.commands;
      behind = omega (arith, s.uses.placed, h.behind);
    } in
    subst UserCounts (sym s.rest) kept

pub respond_counts : (r : RegionState) (u : UserState) (p : Parked) → UserCounts u → list_any (is_open_job p.job.id) u.jobs ≡ true → UserCounts (user_responded r u p).user
respond_counts r u p h a = counts_spent u (user_responded r u p).user 1 h (respond_spent r u p h a)

pub respond_once : (r : RegionState) (u : UserState) (p : Parked) → UserCounts u → list_any (is_open_job p.job.id) u.jobs ≡ true →
    count_by is_unanswered (user_responded r u p).user.jobs + 1 ≡ count_by is_unanswered u.jobs
respond_once r u p h a = (respond_spent r u p h a).open_

pub respond_uses : (r : RegionState) (u : UserState) (p : Parked) → UserCounts u → list_any (is_open_job p.job.id) u.jobs ≡ true → (k : ℕ) × UsesEntries u (user_responded r u p).user k
respond_uses r u p h a = let s = respond_spent r u p h a in (s.n, s.uses)
