-- Answers placed change no block but those of their jobs, and before the data area only their entries.
use Rattle.std.proofs.Common.{◌≡◌, ◌⊎◌, inl, inr, ℕ, zero, suc, ◌+◌, ◌-◌, ◌*◌, ◌<◌, ◌≤◌, Bool, true, false, cond, List, [], ◌∷◌, ◌++◌, length, length-take, take, drop, Option, Some, None, refl, sym, ap, ◌∙◌, subst, arith, ⊎_elim}
use Rattle.std.specs.Prelude.{slice_get}
use Rattle.std.proofs.Math.Nat.{mul-suc}
use Rattle.std.proofs.lemmas.Bool.{cases_lt}
use Rattle.std.proofs.lemmas.List.{drop_all, take_all}
use Rattle.tcmu_types.specs.ByteFields.{put}
use Rattle.tcmu_types.proofs.ByteFields.{put-nothing}
use Rattle.tcmu_types.specs.declared.iovec.Iov.{Iov}
use Rattle.tcmu_types.specs.Lists.{Every, with_first, without_first}
use Rattle.tcmu_types.proofs.Everies.{every-back, every-front, every-take}
use Rattle.tcmu_model.specs.Lengths.{block_size}
use Rattle.region_model.specs.Iovecs.{scattered}
use Rattle.region_model.specs.Regions.{RegionState, blocks_over, copied_in, home, named_by, overlaid, size_of, wrote}
use Rattle.region_model.specs.Sides.{Carried, Copied, GivenJob, JobState, Moved, Parked, UserState}
use Rattle.region_model.specs.UserSteps.{Placing, answered_region, is_open_job, lie_in_area, placed_at, placed_front, placed_one, placing_by, user_responded, with_jobs, with_parked, with_payload}
use Rattle.region_model.proofs.Areas.{length-overlaid, size-home}
use Rattle.ring_laws.specs.Sizes.{IsSized}
use Rattle.ring_laws.specs.UserKept.{HasRing, IsAnswered, OnlyAnswers, UserSound}
use Rattle.ring_laws.proofs.user_over_any_bytes.AnyAnswers.{Answers, respond_keeps}
use Rattle.ring_laws.proofs.placed.AnswerData.{returned-other}
use Rattle.shm_region.specs.Copies.{LeaveOut, ShareNone}
use Rattle.user_lib.specs.Frames.{ChangesOnly, LeavesBlock, front_jobs}

-- ==== bytes that two ranges share

beside : (a n b m : ℕ) → ShareNone a n b m → (a + n ≤ b) ⊎ (b + m ≤ a) ⊎ (n ≡ 0) ⊎ (m ≡ 0)
beside a n b m none =
    ⊎_elim (λ (x : b < a + n).
    ⊎_elim (λ (y : a < b + m).
    ⊎_elim (λ (left : a < b).
    ⊎_elim (λ (some : 0 < m). absurd (none b (omega (arith, left)) x (omega arith) (omega (arith, some)))) (λ (h : m ≤ 0). inr (inr (inr (omega (arith, h))))) (cases_lt 0 m))
    (λ (right : b ≤ a).
    ⊎_elim (λ (some : 0 < n). absurd (none a (omega arith) (omega (arith, some)) right y)) (λ (h : n ≤ 0). inr (inr (inl (omega (arith, h))))) (cases_lt 0 n))
    (cases_lt a b))
    (λ (h : b + m ≤ a). inr (inl h))
    (cases_lt a (b + m)))
    (λ (h : a + n ≤ b). inl h)
    (cases_lt b (a + n))

over_past : (place at : ℕ) (bytes x : List ℕ) → length x ≤ at - place → overlaid place at bytes x ≡ x
unfolding overlaid
over_past place at bytes x h =
    let none : length x - (at - place) ≡ 0 = omega (arith, h) in
    ap (λ n. put x (at - place) (take n (drop (place - at) bytes))) none ∙ put-nothing x (at - place)

over_before : (place at : ℕ) (bytes x : List ℕ) → length bytes ≤ place - at → overlaid place at bytes x ≡ x
unfolding overlaid
over_before place at bytes x h =
    ap (λ (xs : List ℕ). put x (at - place) (take (length x - (at - place)) xs)) (drop_all (place - at) bytes h)
    ∙ (ap (put x (at - place)) (take_all (length x - (at - place)) [] (omega arith)) ∙ put-nothing x (at - place))

-- ==== one block

-- block k has the size of a block, where it is at home
abbrev Fits : ℕ → List (Option (List ℕ)) → ℕ → Type 0
Fits size blocks k = (x : List ℕ) → slice_get blocks k ≡ Some (Some x) → length x ≡ size

fits_sized : (r : RegionState) (k : ℕ) → IsSized r → Fits (size_of r) r.blocks k
fits_sized r k sized x e = size-home (size_of r) r.blocks k x sized (ap home e)

stays : (size p at : ℕ) (c x : List ℕ) → length x ≡ size → ShareNone at (length c) p size → overlaid p at c x ≡ x
stays size p at c x l none =
    ⊎_elim (λ (h : at + length c ≤ p). over_before p at c x (omega (arith, h)))
    (⊎_elim (λ (h : p + size ≤ at). over_past p at c x (omega (arith, h, l)))
    (⊎_elim (λ (h : length c ≡ 0). over_before p at c x (omega (arith, h)))
    (λ (h : size ≡ 0). over_past p at c x (omega (arith, h, l)))))
    (beside at (length c) p size none)

over_block : (size p at : ℕ) (c : List ℕ) (blocks : List (Option (List ℕ))) (k : ℕ) → Fits size blocks k → ShareNone at (length c) (p + size * k) size → slice_get (blocks_over p size at c blocks) k ≡ slice_get blocks k
over_block size p at c [] k fits none = refl
over_block size p at c (None ∷ blocks) zero fits none = refl
over_block size p at c (Some x ∷ blocks) zero fits none =
    let first : p + size * 0 ≡ p = omega arith in
    ap (λ (y : List ℕ). Some (Some y)) (stays size p at c x (fits x refl) (subst (λ (q : ℕ). ShareNone at (length c) q size) first none))
over_block size p at c (o ∷ blocks) (suc k) fits none =
    over_block size (p + size) at c blocks k fits (subst (λ (q : ℕ). ShareNone at (length c) q size) (next p size k) none)
  where
    next : (p s k : ℕ) → p + s * suc k ≡ p + s + s * k
    next p s k = omega (arith, mul-suc s k)

fewer : (a n b m k : ℕ) → k ≤ n → ShareNone a n b m → ShareNone a k b m
fewer a n b m k le none i p q s t = none i p (omega (arith, q, le)) s t

copied_block : (r : RegionState) (iovs : List Iov) (bytes : List ℕ) (k : ℕ) → Fits (size_of r) r.blocks k → LeaveOut iovs (length r.front + size_of r * k) (size_of r) → slice_get (copied_in r iovs bytes).blocks k ≡ slice_get r.blocks k
copied_block r [] bytes k fits out = refl
copied_block r (iov ∷ iovs) bytes k fits out =
    let c : List ℕ = take iov.len bytes in
    let none = fewer iov.base iov.len (length r.front + size_of r * k) (size_of r) (length c) (omega (arith, length-take iov.len bytes)) out.0 in
    let one : slice_get (wrote r iov.base c).blocks k ≡ slice_get r.blocks k = over_block (size_of r) (length r.front) iov.base c r.blocks k fits none in
    copied_block (wrote r iov.base c) iovs (drop iov.len bytes) k (λ x e. fits x (sym one ∙ e))
    (subst (λ (n : ℕ). LeaveOut iovs (n + size_of r * k) (size_of r)) (sym (length-overlaid 0 iov.base c r.front)) out.1)
    ∙ one

payload_block : (r : RegionState) (iovs : List Iov) (carried : Carried) (payload : List ℕ) (k : ℕ) → Fits (size_of r) r.blocks k → LeavesBlock (length r.front) (size_of r) k iovs carried → slice_get (with_payload r iovs carried payload).blocks k ≡ slice_get r.blocks k
payload_block r iovs (Moved parts) payload k fits out = returned-other r.blocks (named_by r iovs) (scattered parts payload) k out
payload_block r iovs (Copied bytes) payload k fits out = go (lie_in_area r iovs)
  where
    go : (b : Bool) → slice_get (cond b (copied_in r iovs payload) r).blocks k ≡ slice_get r.blocks k
    go true = copied_block r iovs payload k fits out
    go false = refl

-- ==== answers one after another

record Changed (r : RegionState) (ats : List ℕ) (jobs : List JobState) (after : RegionState) : Type 0 where
  pub long : length after.front ≡ length r.front
  pub pages : after.pages ≡ r.pages
  pub front : OnlyAnswers ats r.front after.front
  pub blocks : (k : ℕ) → Fits (size_of r) r.blocks k → Every (λ (job : JobState). LeavesBlock (length r.front) (size_of r) k job.iovs job.carried) jobs → slice_get after.blocks k ≡ slice_get r.blocks k

changed_none : (r : RegionState) (ats : List ℕ) (jobs : List JobState) → Changed r ats jobs r
changed_none r ats jobs = record { long = refl; pages = refl; front = λ i h. refl; blocks = λ k fits h. refl }

-- one answer, in the entry at a ring offset
changed_one : (r : RegionState) (u : UserState) (at : ℕ) (p : Parked) → UserSound u → HasRing r u → at + 112 ≤ u.ring → Changed r (at ∷ []) (p.job ∷ []) (answered_region r u at p)
unfolding user_responded
changed_one r u at p sound ring fits =
    let alone : UserState = record u { offsets = at ∷ []; flags = record u.flags { ooo = true } } in
    let k : Answers r alone (user_responded r alone p) =
    respond_keeps r alone p (record { ring = sound.ring; place = sound.place; tail = sound.tail; items = sound.items; offsets = (fits, tt) }) ring in
    record {
      long = k.front;
      pages = k.pages;
      front = k.only;
      blocks = λ n sized h. payload_block r p.job.iovs p.job.carried p.reply.payload n sized h.0;
    }

abbrev OtherJobs : ℕ → ℕ → ℕ → List JobState → Type 0
OtherJobs start size k jobs = Every (λ (job : JobState). LeavesBlock start size k job.iovs job.carried) jobs

-- two of them
changed_more : (r mid after : RegionState) (ats ats' : List ℕ) (jobs jobs' : List JobState) → Changed r ats jobs mid → Changed mid ats' jobs' after → Changed r (ats ++ ats') (jobs ++ jobs') after
changed_more r mid after ats ats' jobs jobs' a b =
    record {
      long = b.long ∙ a.long;
      pages = b.pages ∙ a.pages;
      front = λ i h. b.front i (every-back (λ at. ¬ IsAnswered i at) ats ats' h) ∙ a.front i (every-front (λ at. ¬ IsAnswered i at) ats ats' h);
      blocks = λ k fits h.
          let mine : OtherJobs (length r.front) (size_of r) k jobs = every-front (λ (job : JobState). LeavesBlock (length r.front) (size_of r) k job.iovs job.carried) jobs jobs' h in
          let rest : OtherJobs (length r.front) (size_of r) k jobs' = every-back (λ (job : JobState). LeavesBlock (length r.front) (size_of r) k job.iovs job.carried) jobs jobs' h in
          let first : slice_get mid.blocks k ≡ slice_get r.blocks k = a.blocks k fits mine in
          let there : Fits (size_of mid) mid.blocks k = λ x e. fits x (sym first ∙ e) ∙ ap block_size (sym a.pages) in
          let other : OtherJobs (length mid.front) (size_of mid) k jobs' =
          subst (λ n. OtherJobs (length mid.front) (block_size n) k jobs') (sym a.pages) (subst (λ n. OtherJobs n (size_of r) k jobs') (sym a.long) rest) in
          b.blocks k there other ∙ first;
    }

-- the longest front of jobs that have their replies, in the first entries that are left
changed_front : (k : Placing) (gs : List GivenJob) → UserSound k.user → HasRing k.region k.user →
    Changed k.region (take (length (front_jobs gs)) k.user.offsets) (front_jobs gs) (placed_front k gs).region
changed_front k [] sound ring = changed_none k.region (take 0 k.user.offsets) []
changed_front k (g ∷ gs) sound ring = by_reply g.parked (λ m s e. changed_front m gs s e)
  where
    Rest : Type 0
    Rest = (m : Placing) → UserSound m.user → HasRing m.region m.user → Changed m.region (take (length (front_jobs gs)) m.user.offsets) (front_jobs gs) (placed_front m gs).region

    with_offset : (p : Parked) (ats : List ℕ) → k.user.offsets ≡ ats → Rest →
        Changed k.region (take (suc (length (front_jobs gs))) ats) (p.job ∷ front_jobs gs) (placed_front (placed_at k p gs ats) gs).region
    with_offset p [] e rest =
        let c = rest k sound ring in
        record {
          long = c.long;
          pages = c.pages;
          front = λ i h. c.front i (subst (λ (xs : List ℕ). Every (λ at. ¬ IsAnswered i at) (take (length (front_jobs gs)) xs)) (sym e) (every-take (λ at. ¬ IsAnswered i at) (length (front_jobs gs)) [] tt));
          blocks = λ n fits h. c.blocks n fits h.1;
        }
    with_offset p (at ∷ ats) e rest =
        let fit : Every (λ x. x + 112 ≤ k.user.ring) (at ∷ ats) = subst (Every (λ x. x + 112 ≤ k.user.ring)) e sound.offsets in
        let one : Changed k.region (at ∷ []) (p.job ∷ []) (answered_region k.region k.user at p) = changed_one k.region k.user at p sound ring fit.0 in
        let u : UserState = record k.user { jobs = gs; offsets = ats; placed = k.user.placed + 1 } in
        let more = rest (record { region = answered_region k.region k.user at p; user = u })
        (record { ring = sound.ring; place = sound.place; tail = sound.tail; items = sound.items; offsets = fit.1 }) (one.long ∙ ring) in
        changed_more k.region (answered_region k.region k.user at p) (placed_front (placed_at k p gs (at ∷ ats)) gs).region (at ∷ []) (take (length (front_jobs gs)) ats) (p.job ∷ []) (front_jobs gs) one more

    by_reply : (o : Option Parked) → Rest →
        Changed k.region (take (length (elim o as (λ x. List JobState) [ None ↦ [] | Some p ↦ p.job ∷ front_jobs gs ])) k.user.offsets)
        (elim o as (λ x. List JobState) [ None ↦ [] | Some p ↦ p.job ∷ front_jobs gs ])
        (elim o as (λ x. Placing) [ None ↦ k | Some p ↦ placed_front (placed_one k p gs) gs ]).region
    by_reply None rest = changed_none k.region (take 0 k.user.offsets) []
    by_reply (Some p) rest = with_offset p k.user.offsets refl rest

-- ==== a respond

pub respond_changes : (r : RegionState) (u : UserState) (p : Parked) → UserSound u → HasRing r u → IsSized r → ChangesOnly r u p (user_responded r u p).region
unfolding user_responded
respond_changes r u p sound ring sized =
    let c = go u.flags.ooo in
    record { front = c.front; blocks = λ k h. c.blocks k (fits_sized r k sized) h }
  where
    jobs : List GivenJob
    jobs = with_first (is_open_job p.job.id) (with_parked p) u.jobs

    placed : (ats : List ℕ) → u.offsets ≡ ats → Changed r (take 1 ats) (p.job ∷ []) (placed_at (record { region = r; user = u }) p (without_first (is_open_job p.job.id) u.jobs) ats).region
    placed [] e = changed_none r (take 1 []) (p.job ∷ [])
    placed (at ∷ ats) e =
        let fit : Every (λ x. x + 112 ≤ u.ring) (at ∷ ats) = subst (Every (λ x. x + 112 ≤ u.ring)) e sound.offsets in
        changed_one r u at p sound ring fit.0

    go : (b : Bool) → Changed r (take (length (cond b (p.job ∷ []) (front_jobs jobs))) u.offsets) (cond b (p.job ∷ []) (front_jobs jobs)) (placing_by b r u p).region
    go true = placed u.offsets refl
    go false = changed_front (record { region = r; user = with_jobs u jobs }) jobs
        (record { ring = sound.ring; place = sound.place; tail = sound.tail; items = sound.items; offsets = sound.offsets }) ring
