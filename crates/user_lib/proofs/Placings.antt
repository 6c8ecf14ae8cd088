-- Answers placed one after another, as the definitions have them.
use Rattle.std.proofs.Common.{◌≡◌, ℕ, suc, ◌+◌, ◌-◌, ◌≤◌, Bool, true, false, cond, List, [], ◌∷◌, length, take, drop, Option, Some, None, refl, sym, ap, ◌∙◌, subst, arith, leb, leb-true}
use Rattle.std.specs.List.{list_all, list_any}
use Rattle.std.specs.Option.{MatchOption, is_some, option_map}
use Rattle.std.proofs.lemmas.Bool.{and_parts, true≢false}
use Rattle.tcmu_types.specs.declared.iovec.Iov.{Iov}
use Rattle.tcmu_types.specs.ByteFields.{put}
use Rattle.tcmu_types.specs.Lists.{Every, with_first}
use Rattle.tcmu_types.proofs.Everies.{every-weaker, every-with_first}
use Rattle.tcmu_types.proofs.ByteFields.{put-nothing}
use Rattle.tcmu_model.specs.Lengths.{block_size}
use Rattle.region_model.specs.Layout.{data_start}
use Rattle.region_model.specs.EntryReading.{lies_inside}
use Rattle.region_model.specs.Regions.{HaveSize, RegionState, bytes_of, copied_in, numbers_of, overlaid, wrote}
use Rattle.region_model.specs.Sides.{Carried, Copied, GivenJob, JobState, Moved, Parked, UserState}
use Rattle.region_model.specs.UserSteps.{Placing, answered_region, is_open_job, lie_in_area, placed_at, placed_front, placed_one, placed_or_parked, with_parked, with_payload}
use Rattle.ring_laws.specs.UserKept.{AreWholeJobs, HasPages, HasRing, IsWholeJob, UserCounts}
use Rattle.user_lib.specs.Answering.{CanAnswer, GoesBack, TakesParked, answer_by}
use Rattle.user_lib.specs.Given.{first_parked}

-- ==== the blocks of a job

pub goes_back : (r : RegionState) (u : UserState) (job : JobState) → HasRing r u → HasPages r u → IsWholeJob u job → GoesBack r job.iovs job.carried
goes_back r u job front pages whole parts e =
    let k = whole parts e in (
      subst (λ n. HaveSize (block_size n) parts) (sym pages) k.0,
      k.1 ∙ (ap (λ n. length (numbers_of (data_start u.ring) (block_size n) job.iovs)) (sym pages) ∙ ap (λ n. length (numbers_of n (block_size r.pages) job.iovs)) (sym front)),
    )

-- ==== the front stays

front_before : (at : ℕ) (bytes front : List ℕ) → length front ≤ at → overlaid 0 at bytes front ≡ front
unfolding overlaid
front_before at bytes front h =
    let z : length front - (at - 0) ≡ 0 = omega (arith, h) in
    ap (λ n. put front (at - 0) (take n (drop (0 - at) bytes))) z ∙ put-nothing front (at - 0)

copied_front : (start : ℕ) (r : RegionState) (iovs : List Iov) (bytes : List ℕ) → length r.front ≡ start → Every (λ (iov : Iov). start ≤ iov.base) iovs → (copied_in r iovs bytes).front ≡ r.front
copied_front start r [] bytes e h = refl
copied_front start r (iov ∷ iovs) bytes e h =
    let first : List ℕ = take iov.len bytes in
    let low : start ≤ iov.base = h.0 in
    let f : (wrote r iov.base first).front ≡ r.front = front_before iov.base first r.front (omega (arith, e, low)) in
    copied_front start (wrote r iov.base first) iovs (drop iov.len bytes) (ap length f ∙ e) h.1 ∙ f

copied_pages : (r : RegionState) (iovs : List Iov) (bytes : List ℕ) → (copied_in r iovs bytes).pages ≡ r.pages
copied_pages r [] bytes = refl
copied_pages r (iov ∷ iovs) bytes = copied_pages (wrote r iov.base (take iov.len bytes)) iovs (drop iov.len bytes)

all_behind : (low high : ℕ) (iovs : List Iov) → list_all (lies_inside low high) iovs ≡ true → Every (λ (iov : Iov). low ≤ iov.base) iovs
all_behind low high [] h = tt
all_behind low high (iov ∷ iovs) h =
    let p : (lies_inside low high iov ≡ true) × (list_all (lies_inside low high) iovs ≡ true) = and_parts _ _ h in
    let q : (leb low iov.base ≡ true) × (leb (iov.base + iov.len) high ≡ true) = and_parts _ _ p.0 in
    (leb-true low iov.base q.0, all_behind low high iovs p.1)

pub payload_front : (r : RegionState) (iovs : List Iov) (carried : Carried) (payload : List ℕ) → (with_payload r iovs carried payload).front ≡ r.front
payload_front r iovs (Moved parts) payload = refl
payload_front r iovs (Copied bytes) payload = go (lie_in_area r iovs) refl
  where
    go : (b : Bool) → lie_in_area r iovs ≡ b → (cond b (copied_in r iovs payload) r).front ≡ r.front
    go true e = copied_front (length r.front) r iovs payload refl (all_behind (length r.front) (length (bytes_of r)) iovs e)
    go false e = refl

pub payload_pages : (r : RegionState) (iovs : List Iov) (carried : Carried) (payload : List ℕ) → (with_payload r iovs carried payload).pages ≡ r.pages
payload_pages r iovs (Moved parts) payload = refl
payload_pages r iovs (Copied bytes) payload = go (lie_in_area r iovs)
  where
    go : (b : Bool) → (cond b (copied_in r iovs payload) r).pages ≡ r.pages
    go true = copied_pages r iovs payload
    go false = refl

pub inside_front : (r : RegionState) (iovs : List Iov) (payload : List ℕ) → lie_in_area r iovs ≡ true → (copied_in r iovs payload).front ≡ r.front
inside_front r iovs payload e = copied_front (length r.front) r iovs payload refl (all_behind (length r.front) (length (bytes_of r)) iovs e)

pub inside_pages : (r : RegionState) (iovs : List Iov) (payload : List ℕ) → (copied_in r iovs payload).pages ≡ r.pages
inside_pages r iovs payload = copied_pages r iovs payload

-- ==== one answer

-- with the first offset that is left
pub placed_first : (r : RegionState) (u : UserState) (p : Parked) (rest : List GivenJob) (at : ℕ) (ats : List ℕ) → u.offsets ≡ at ∷ ats →
    placed_one (record { region = r; user = u }) p rest ≡ record { region = answered_region r u at p; user = record u { jobs = rest; offsets = ats; placed = u.placed + 1 } }
placed_first r u p rest at ats e = ap (λ xs. placed_at (record { region = r; user = u }) p rest xs) e

-- it goes by the offsets, whichever jobs there are
pub placed_jobs : (r : RegionState) (u : UserState) (p : Parked) (rest : List GivenJob) → 1 ≤ length u.offsets → placed_one (record { region = r; user = u }) p rest ≡ placed_one (record { region = r; user = record u { jobs = rest } }) p rest
placed_jobs r u p rest h = go u.offsets h
  where
    go : (ats : List ℕ) → 1 ≤ length ats → placed_at (record { region = r; user = u }) p rest ats ≡ placed_at (record { region = r; user = record u { jobs = rest } }) p rest ats
    go [] k = absurd (omega (arith, k))
    go (at ∷ ats) k = refl

-- ==== the longest front with replies

pub front_step : (r left : RegionState) (u mid after : UserState) (p : Parked) → TakesParked u p mid → 1 ≤ length u.offsets → placed_one (record { region = r; user = mid }) p mid.jobs ≡ record { region = left; user = after } → after.jobs ≡ mid.jobs →
    placed_front (record { region = left; user = after }) after.jobs ≡ placed_front (record { region = r; user = u }) u.jobs
front_step r left u mid after p t h e j =
    let rest : List GivenJob = mid.jobs in
    let a : placed_one (record { region = r; user = u }) p rest ≡ record { region = left; user = after } =
    placed_jobs r u p rest h ∙ (ap (λ (x : UserState). placed_one (record { region = r; user = x }) p rest) (sym t.user) ∙ e) in
    sym
    (ap (λ xs. placed_front (record { region = r; user = u }) xs) t.jobs
    ∙ (ap (λ k. placed_front k rest) a ∙ ap (λ xs. placed_front (record { region = left; user = after }) xs) (sym j)))

pub front_end : (k : Placing) (jobs : List GivenJob) → first_parked jobs ≡ false → placed_front k jobs ≡ k
front_end k [] h = refl
front_end k (g ∷ gs) h = go g.parked h
  where
    go : (o : Option Parked) → is_some o ≡ false → elim o as (λ x. Placing) [ None ↦ k | Some p ↦ placed_front (placed_one k p gs) gs ] ≡ k
    go None e = refl
    go (Some p) e = absurd (true≢false e)

-- ==== what the answers in order want, one after another

pub record FrontKept (r : RegionState) (u : UserState) : Type 0 where
  pub ring : HasRing r u
  pub pages : HasPages r u
  pub whole : AreWholeJobs u
  pub owed : length u.jobs ≤ length u.offsets
  pub counted : u.placed + length u.offsets ≡ u.dispatched

pub front_kept : (r : RegionState) (u : UserState) → HasRing r u → HasPages r u → AreWholeJobs u → UserCounts u → FrontKept r u
front_kept r u ring pages whole counts = record { ring = ring; pages = pages; whole = whole; owed = counts.owed; counted = counts.entries }

-- what a placed answer leaves of the user side
pub record PlacedKept (u after : UserState) : Type 0 where
  pub ring : after.ring ≡ u.ring
  pub pages : after.pages ≡ u.pages
  pub jobs : after.jobs ≡ u.jobs
  pub offsets : length after.offsets + 1 ≡ length u.offsets
  pub placed : after.placed ≡ u.placed + 1
  pub dispatched : after.dispatched ≡ u.dispatched

pub placed_kept : (r left : RegionState) (u after : UserState) (p : Parked) → 1 ≤ length u.offsets → placed_one (record { region = r; user = u }) p u.jobs ≡ record { region = left; user = after } → PlacedKept u after
placed_kept r left u after p h e = go u.offsets refl h
  where
    go : (ats : List ℕ) → u.offsets ≡ ats → 1 ≤ length ats → PlacedKept u after
    go [] q k = absurd (omega (arith, k))
    go (at ∷ ats) q k =
        let a : record u { jobs = u.jobs; offsets = ats; placed = u.placed + 1 } ≡ after = ap (λ (x : Placing). x.user) (sym (placed_first r u p u.jobs at ats q) ∙ e) in
        let n : length u.offsets ≡ length ats + 1 = ap length q ∙ (let z : suc (length ats) ≡ length ats + 1 = omega arith in z) in
        record {
          ring = sym (ap (λ (x : UserState). x.ring) a);
          pages = sym (ap (λ (x : UserState). x.pages) a);
          jobs = sym (ap (λ (x : UserState). x.jobs) a);
          offsets = ap (λ (x : UserState). length x.offsets + 1) (sym a) ∙ sym n;
          placed = sym (ap (λ (x : UserState). x.placed) a);
          dispatched = sym (ap (λ (x : UserState). x.dispatched) a);
        }

-- what the placing of the job that is taken out wants
pub record FrontTaken (r : RegionState) (mid : UserState) (p : Parked) : Type 0 where
  pub ring : HasRing r mid
  pub pages : HasPages r mid
  pub whole : IsWholeJob mid p.job
  pub can : CanAnswer mid

-- the jobs of the same ring and pages stay whole
whole_same : (u v : UserState) (jobs : List GivenJob) → v.ring ≡ u.ring → v.pages ≡ u.pages → Every (λ g. (p : Parked) → g.parked ≡ Some p → IsWholeJob u p.job) jobs → Every (λ g. (p : Parked) → g.parked ≡ Some p → IsWholeJob v p.job) jobs
whole_same u v jobs ring pages h =
    every-weaker (λ g. (p : Parked) → g.parked ≡ Some p → IsWholeJob u p.job) (λ g. (p : Parked) → g.parked ≡ Some p → IsWholeJob v p.job) jobs
    (λ g f p e parts c. let k = f p e parts c in (
      subst (λ n. HaveSize (block_size n) parts) (sym pages) k.0,
      k.1 ∙ (ap (λ n. length (numbers_of (data_start u.ring) (block_size n) p.job.iovs)) (sym pages) ∙ ap (λ n. length (numbers_of (data_start n) (block_size v.pages) p.job.iovs)) (sym ring)),
    )) h

pub front_taken : (r : RegionState) (u mid : UserState) (p : Parked) → FrontKept r u → TakesParked u p mid → FrontTaken r mid p
front_taken r u mid p h t =
    let ring : mid.ring ≡ u.ring = ap (λ (x : UserState). x.ring) t.user in
    let pages : mid.pages ≡ u.pages = ap (λ (x : UserState). x.pages) t.user in
    let offsets : mid.offsets ≡ u.offsets = ap (λ (x : UserState). x.offsets) t.user in
    let placed : mid.placed ≡ u.placed = ap (λ (x : UserState). x.placed) t.user in
    let dispatched : mid.dispatched ≡ u.dispatched = ap (λ (x : UserState). x.dispatched) t.user in
    let first : Every (λ (g : GivenJob). (q : Parked) → g.parked ≡ Some q → IsWholeJob u q.job) (record { id = t.id; parked = Some p } ∷ mid.jobs) = subst (λ (gs : List GivenJob). Every (λ g. (q : Parked) → g.parked ≡ Some q → IsWholeJob u q.job) gs) t.jobs h.whole in
    let mine : Every (λ (g : GivenJob). (q : Parked) → g.parked ≡ Some q → IsWholeJob mid q.job) (record { id = t.id; parked = Some p } ∷ []) = whole_same u mid (record { id = t.id; parked = Some p } ∷ []) ring pages (first.0, tt) in
    record {
      ring = h.ring ∙ ap data_start (sym ring);
      pages = h.pages ∙ sym pages;
      whole = mine.0 p refl;
      can = record { entry = omega (arith, h.owed, ap length t.jobs, ap length offsets); counted = omega (arith, h.counted, placed, ap length offsets, dispatched) };
    }

pub front_placed : (r left : RegionState) (u mid after : UserState) (p : Parked) → FrontKept r u → TakesParked u p mid → placed_one (record { region = r; user = mid }) p mid.jobs ≡ record { region = left; user = after } →
    length left.front ≡ length r.front → left.pages ≡ r.pages → FrontKept left after
front_placed r left u mid after p h t e front size =
    let k : FrontTaken r mid p = front_taken r u mid p h t in
    let q : PlacedKept mid after = placed_kept r left mid after p k.can.entry e in
    let ring : after.ring ≡ u.ring = q.ring ∙ ap (λ (x : UserState). x.ring) t.user in
    let pages : after.pages ≡ u.pages = q.pages ∙ ap (λ (x : UserState). x.pages) t.user in
    let offsets : mid.offsets ≡ u.offsets = ap (λ (x : UserState). x.offsets) t.user in
    let first : Every (λ (g : GivenJob). (x : Parked) → g.parked ≡ Some x → IsWholeJob u x.job) (record { id = t.id; parked = Some p } ∷ mid.jobs) = subst (λ (gs : List GivenJob). Every (λ g. (x : Parked) → g.parked ≡ Some x → IsWholeJob u x.job) gs) t.jobs h.whole in
    record {
      ring = front ∙ (h.ring ∙ ap data_start (sym ring));
      pages = size ∙ (h.pages ∙ sym pages);
      whole = subst (λ (gs : List GivenJob). Every (λ g. (x : Parked) → g.parked ≡ Some x → IsWholeJob after x.job) gs) (sym q.jobs) (whole_same u after mid.jobs ring pages first.1);
      owed = omega (arith, h.owed, ap length t.jobs, ap length offsets, ap length q.jobs, q.offsets);
      counted = omega (arith, k.can.counted, q.placed, q.offsets, q.dispatched);
    }

-- jobs that lie as many as before
pub counts_jobs : (u : UserState) (jobs : List GivenJob) → length jobs ≤ length u.jobs → UserCounts u → UserCounts (record u { jobs = jobs })
counts_jobs u jobs few h = record { reach = h.reach; entries = h.entries; owed = omega (arith, few, h.owed); commands = h.commands; behind = h.behind }

-- ==== taking the first job out

pub taken_told : (u : UserState) (g : GivenJob) (jobs : List GivenJob) → u.jobs ≡ g ∷ jobs → first_parked u.jobs ≡ true →
    MatchOption g.parked ((first_parked u.jobs ≡ false) × (record u { jobs = jobs } ≡ u)) (λ p. TakesParked u p (record u { jobs = jobs }))
taken_told u g jobs e h = go g.parked refl
  where
    go : (o : Option Parked) → g.parked ≡ o → MatchOption o ((first_parked u.jobs ≡ false) × (record u { jobs = jobs } ≡ u)) (λ p. TakesParked u p (record u { jobs = jobs }))
    go None q =
        let k : first_parked u.jobs ≡ false = ap first_parked e ∙ ap is_some q in
        absurd (true≢false (sym h ∙ k))
    go (Some p) q = record { id = g.id; jobs = e ∙ ap (λ (x : Option Parked). (record { id = g.id; parked = x }) ∷ jobs) q; user = refl }

-- with one job more that has its reply, and whole blocks
pub parked_whole : (u : UserState) (id : ℕ) (p : Parked) (jobs : List GivenJob) → jobs ≡ with_first (is_open_job id) (with_parked p) u.jobs → IsWholeJob u p.job → AreWholeJobs u → AreWholeJobs (record u { jobs = jobs })
parked_whole u id p jobs e mine all =
    subst (λ (gs : List GivenJob). Every (λ g. (q : Parked) → g.parked ≡ Some q → IsWholeJob u q.job) gs) (sym e)
    (every-with_first (is_open_job id) (with_parked p) (λ g. (q : Parked) → g.parked ≡ Some q → IsWholeJob u q.job) u.jobs
    (λ g t k q z. let same : p ≡ q = cc in subst (λ (y : Parked). IsWholeJob u y.job) same mine) all)

-- the answer goes by the id of the first job without a reply
pub answer_same : (id : ℕ) (o : Option GivenJob) → answer_by (option_map (λ g. g.id) o) id ≡ placed_or_parked id o
answer_same id None = refl
answer_same id (Some g) = refl

-- where a job of an id has no reply, an entry is left
pub can_open : (u : UserState) (id : ℕ) → UserCounts u → list_any (is_open_job id) u.jobs ≡ true → CanAnswer u
can_open u id h any = record { entry = omega (arith, h.owed, some u.jobs any); counted = h.entries }
  where
    some : (gs : List GivenJob) → list_any (is_open_job id) gs ≡ true → 1 ≤ length gs
    some [] e = absurd (true≢false (sym e))
    some (g ∷ gs) e = omega arith
