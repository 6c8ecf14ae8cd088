-- The jobs that are out, behind a call of the user side.
use Rattle.std.proofs.Common.{◌≡◌, ◌≢◌, ℕ, ◌≤◌, ◌<◌, true, List, [], ◌∷◌, ◌++◌, length, sym, ap, ◌∙◌, subst, arith}
use Rattle.std.specs.List.{list_any}
use Rattle.tcmu_types.specs.Lists.{Every}
use Rattle.tcmu_types.proofs.Everies.{every-append}
use Rattle.tcmu_model.specs.Lengths.{block_size}
use Rattle.region_model.specs.Layout.{data_start}
use Rattle.region_model.specs.Regions.{HaveSize, RegionState, numbers_of}
use Rattle.region_model.specs.Sides.{JobState, UserState}
use Rattle.region_model.specs.UserSteps.{is_open_job}
use Rattle.ring_laws.specs.UserKept.{HasPages, HasRing, IsWholeJob}
use Rattle.user_lib.specs.Stays.{OthersStayOpen, StayOpen, StaysAttached}
use Rattle.user_bench.specs.Out.{AreOut, IsBench}

-- a whole job stays whole
whole_stays : (u after : UserState) (job : JobState) → StaysAttached u after → IsWholeJob u job → IsWholeJob after job
whole_stays u after job s h parts e =
    let k = h parts e in (
      subst (λ n. HaveSize (block_size n) parts) (sym s.pages) k.0,
      k.1 ∙ (ap (λ n. length (numbers_of (data_start n) (block_size u.pages) job.iovs)) (sym s.ring) ∙ ap (λ n. length (numbers_of (data_start after.ring) (block_size n) job.iovs)) (sym s.pages)),
    )

pub out_stays : (u after : UserState) (jobs : List JobState) → StayOpen u after → StaysAttached u after → AreOut u jobs → AreOut after jobs
out_stays u after [] open_ s h = tt
out_stays u after (j ∷ js) open_ s h = (open_ j.id h.0, whole_stays u after j s h.1, h.2, out_stays u after js open_ s h.3)

-- one more that is out
pub out_push : (u : UserState) (jobs : List JobState) (job : JobState) → list_any (is_open_job job.id) u.jobs ≡ true → IsWholeJob u job → Every (λ x. x.id < job.id) jobs → AreOut u jobs → AreOut u (jobs ++ job ∷ [])
out_push u [] job o w away h = (o, w, tt, tt)
out_push u (j ∷ js) job o w away h =
    (h.0, h.1, every-append (λ x. x.id ≢ j.id) js (job ∷ []) h.2 ((λ e. let lt : j.id < job.id = away.0 in absurd (omega (arith, lt, e))), tt), out_push u js job o w away.1 h.3)

pub all_below : (bound more : ℕ) (jobs : List JobState) → bound < more → Every (λ x. x.id ≤ bound) jobs → Every (λ x. x.id < more) jobs
all_below bound more [] lt h = tt
all_below bound more (j ∷ js) lt h = let a : j.id ≤ bound = h.0 in let b : j.id < more = omega (arith, a, lt) in (b, all_below bound more js lt h.1)

pub at_most : (more : ℕ) (jobs : List JobState) → Every (λ x. x.id < more) jobs → Every (λ x. x.id ≤ more) jobs
at_most more [] h = tt
at_most more (j ∷ js) h = let a : j.id < more = h.0 in let b : j.id ≤ more = omega (arith, a) in (b, at_most more js h.1)

-- behind the answer of one whose id is no other's
pub out_rest : (u after : UserState) (id : ℕ) (jobs : List JobState) → OthersStayOpen id u after → StaysAttached u after → Every (λ x. x.id ≢ id) jobs → AreOut u jobs → AreOut after jobs
out_rest u after id [] open_ s away h = tt
out_rest u after id (j ∷ js) open_ s away h = (open_ j.id away.0 h.0, whole_stays u after j s h.1, h.2, out_rest u after id js open_ s away.1 h.3)

-- the youngest, and the others
pub record Youngest (u : UserState) (js : List JobState) (job : JobState) : Type 0 where
  pub is_open : list_any (is_open_job job.id) u.jobs ≡ true
  pub whole : IsWholeJob u job
  pub away : Every (λ x. x.id ≢ job.id) js
  pub rest : AreOut u js

last_of : (P : JobState → Type 0) (js : List JobState) (job : JobState) → Every P (js ++ job ∷ []) → P job × Every P js
last_of P [] job h = (h.0, tt)
last_of P (j ∷ js) job h = let k = last_of P js job h.1 in (k.0, (h.0, k.1))

pub youngest : (u : UserState) (js : List JobState) (job : JobState) → AreOut u (js ++ job ∷ []) → Youngest u js job
youngest u [] job h = record { is_open = h.0; whole = h.1; away = tt; rest = tt }
youngest u (j ∷ js) job h =
    let y = youngest u js job h.3 in
    let l = last_of (λ x. x.id ≢ j.id) js job h.2 in
    record { is_open = y.is_open; whole = y.whole; away = ((λ e. l.0 (sym e)), y.away); rest = (h.0, h.1, l.1, y.rest) }

pub below_front : (bound : ℕ) (js : List JobState) (job : JobState) → Every (λ x. x.id ≤ bound) (js ++ job ∷ []) → Every (λ x. x.id ≤ bound) js
below_front bound js job h = (last_of (λ x. x.id ≤ bound) js job h).1

-- ==== the whole, behind a call

pub stays_bench : (r left : RegionState) (u after : UserState) (jobs same : List JobState) (bound : ℕ) → IsBench r u jobs bound → same ≡ jobs → StayOpen u after → StaysAttached u after → HasRing left after → HasPages left after → IsBench left after same bound
stays_bench r left u after jobs same bound b e open_ s ring pages =
    subst (λ js. IsBench left after js bound) (sym e) (record { ring = ring; pages = pages; out = out_stays u after jobs open_ s b.out; below = b.below })

pub pushed_bench : (r : RegionState) (u : UserState) (jobs : List JobState) (job : JobState) (bound : ℕ) → IsBench r u jobs bound → bound < job.id → list_any (is_open_job job.id) u.jobs ≡ true → IsWholeJob u job →
    IsBench r u (jobs ++ job ∷ []) job.id
pushed_bench r u jobs job bound b lt o w =
    let below = all_below bound job.id jobs lt b.below in
    let own : job.id ≤ job.id = omega arith in
    record { ring = b.ring; pages = b.pages; out = out_push u jobs job o w below b.out; below = every-append (λ x. x.id ≤ job.id) jobs (job ∷ []) (at_most job.id jobs below) (own, tt) }

pub oldest_bench : (r left : RegionState) (u after : UserState) (job : JobState) (rest jobs : List JobState) (bound : ℕ) → IsBench r u jobs bound → jobs ≡ job ∷ rest → OthersStayOpen job.id u after → StaysAttached u after → HasRing left after → HasPages left after →
    IsBench left after rest bound
oldest_bench r left u after job rest jobs bound b e open_ s ring pages =
    let h = subst (λ js. AreOut u js) e b.out in
    let n = subst (λ js. Every (λ x. x.id ≤ bound) js) e b.below in
    record { ring = ring; pages = pages; out = out_rest u after job.id rest open_ s h.2 h.3; below = n.1 }

pub youngest_bench : (r left : RegionState) (u after : UserState) (job : JobState) (rest jobs : List JobState) (bound : ℕ) → IsBench r u jobs bound → jobs ≡ rest ++ job ∷ [] → OthersStayOpen job.id u after → StaysAttached u after → HasRing left after → HasPages left after →
    IsBench left after rest bound
youngest_bench r left u after job rest jobs bound b e open_ s ring pages =
    let y = youngest u rest job (subst (λ js. AreOut u js) e b.out) in
    record { ring = ring; pages = pages; out = out_rest u after job.id rest open_ s y.away y.rest; below = below_front bound rest job (subst (λ js. Every (λ x. x.id ≤ bound) js) e b.below) }
