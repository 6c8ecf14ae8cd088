-- A respond, a publish and the giving up of jobs over any bytes: what the user side keeps, and what it changes of the region.
use Rattle.std.proofs.Common.{◌≡◌, ◌⊎◌, inl, inr, ℕ, ◌+◌, ◌-◌, ◌%◌, ◌<◌, ◌≤◌, Bool, true, false, cond, eqb, leb, List, [], ◌∷◌, length, take, drop, slice_get, suc, Option, Some, None, Result, Ok, Err, refl, ap, ◌∙◌, arith, subst, ⊎_elim}
use Rattle.std.specs.List.{sum_by, list_all}
use Rattle.std.proofs.lemmas.Bool.{cases_Bool, cases_lt, eqb-true, eqb-false, and_parts, leb-true}
use Rattle.std.proofs.lemmas.List.{length-set}
use Rattle.tcmu_types.specs.Data.{ReplyData}
use Rattle.tcmu_types.specs.declared.iovec.Iov.{Iov}
use Rattle.region_model.specs.declared.mailbox.MailboxFault.{MailboxFault}
use Rattle.tcmu_types.specs.Lists.{without_first, with_first, Every}
use Rattle.region_model.specs.Layout.{ring_start, tail_place, response_bytes, with_response}
use Rattle.tcmu_types.specs.ByteFields.{le, put}
use Rattle.region_model.specs.EntryReading.{lies_inside}
use Rattle.region_model.specs.Iovecs.{scattered}
use Rattle.region_model.specs.Regions.{RegionState, size_of, bytes_of, overlaid, blocks_over, wrote, copied_in, given_back, named_by, put_where, put_home, returned}
use Rattle.region_model.specs.Picture.{told_length}
use Rattle.region_model.specs.Sides.{Recorded, Carried, Moved, Copied, Parked, GivenJob, UserState}
use Rattle.region_model.specs.UserSteps.{lie_in_area, with_payload, Placing, placed_at, placed_one, placed_front, is_open_job, with_parked, with_jobs, placing_by, user_responded, moving, moving_items, user_published, region_published, with_parked_back, region_abandoned, user_abandoned, user_attached, or_refused, region_reattached}
use Rattle.tcmu_types.proofs.Everies.{every-take, every-drop}
use Rattle.tcmu_types.proofs.ByteFields.{length-le, put-nothing, length-put}
use Rattle.ring_laws.specs.CalledOn.{SameSizes}
use Rattle.ring_laws.specs.UserKept.{UserSound, HasRing, IsAnswered, OnlyAnswers, OnlyTail}
use Rattle.ring_laws.proofs.user_over_any_bytes.AnyNext.{get-other, next_place}
use Rattle.region_model.proofs.PartLengths.{length-response}
use Rattle.ring_laws.proofs.target_over_any_bytes.AnyRing.{sum_even}

-- ==== the data of an answer

-- all but the bytes of blocks is as it was
pub record OnlyBlocks (before after : RegionState) : Type 0 where
  pub front : after.front ≡ before.front
  pub pages : after.pages ≡ before.pages
  pub count : length after.blocks ≡ length before.blocks

only_same : (r : RegionState) → OnlyBlocks r r
only_same r = record { front = refl; pages = refl; count = refl }

only_more : (a b c : RegionState) → OnlyBlocks a b → OnlyBlocks b c → OnlyBlocks a c
only_more a b c f g = record { front = g.front ∙ f.front; pages = g.pages ∙ f.pages; count = g.count ∙ f.count }

length-home : (blocks : List (Option (List ℕ))) (n : ℕ) (part : List ℕ) → length (put_home blocks n part) ≡ length blocks
length-home blocks n part = go (slice_get blocks n)
  where
    go : (o : Option (Option (List ℕ))) → length (put_where o blocks n part) ≡ length blocks
    go None = refl
    go (Some None) = length-set blocks n (Some part)
    go (Some (Some block)) = refl

length-returned : (blocks : List (Option (List ℕ))) (ns : List ℕ) (parts : List (List ℕ)) → length (returned blocks ns parts) ≡ length blocks
length-returned blocks [] parts = refl
length-returned blocks (n ∷ ns) [] = refl
length-returned blocks (n ∷ ns) (part ∷ parts) = length-home (returned blocks ns parts) n part ∙ length-returned blocks ns parts

only_back : (r : RegionState) (iovs : List Iov) (parts : List (List ℕ)) → OnlyBlocks r (given_back r iovs parts)
only_back r iovs parts = record { front = refl; pages = refl; count = length-returned r.blocks (named_by r iovs) parts }

length-over : (place size at : ℕ) (bytes : List ℕ) (blocks : List (Option (List ℕ))) → length (blocks_over place size at bytes blocks) ≡ length blocks
length-over place size at bytes [] = refl
length-over place size at bytes (block ∷ blocks) = ap (λ n. suc n) (length-over (place + size) size at bytes blocks)

-- bytes written behind the front leave it as it is
front_before : (at : ℕ) (bytes front : List ℕ) → length front ≤ at → overlaid 0 at bytes front ≡ front
unfolding overlaid
front_before at bytes front h =
    let z : length front - (at - 0) ≡ 0 = omega (arith, h) in
    ap (λ n. put front (at - 0) (take n (drop (0 - at) bytes))) z ∙ put-nothing front (at - 0)

only_copied : (start : ℕ) (r : RegionState) (iovs : List Iov) (bytes : List ℕ) → length r.front ≡ start → Every (λ (iov : Iov). start ≤ iov.base) iovs → OnlyBlocks r (copied_in r iovs bytes)
only_copied start r [] bytes e h = only_same r
only_copied start r (iov ∷ iovs) bytes e h =
    let first : List ℕ = take iov.len bytes in
    let low : start ≤ iov.base = h.0 in
    let f : (wrote r iov.base first).front ≡ r.front = front_before iov.base first r.front (omega (arith, e, low)) in
    let one : OnlyBlocks r (wrote r iov.base first) = record { front = f; pages = refl; count = length-over (length r.front) (size_of r) iov.base first r.blocks } in
    only_more r (wrote r iov.base first) (copied_in (wrote r iov.base first) iovs (drop iov.len bytes)) one
    (only_copied start (wrote r iov.base first) iovs (drop iov.len bytes) (ap length f ∙ e) h.1)

all_behind : (low high : ℕ) (iovs : List Iov) → list_all (lies_inside low high) iovs ≡ true → Every (λ (iov : Iov). low ≤ iov.base) iovs
all_behind low high [] h = tt
all_behind low high (iov ∷ iovs) h =
    let p : (lies_inside low high iov ≡ true) × (list_all (lies_inside low high) iovs ≡ true) = and_parts _ _ h in
    let q : (leb low iov.base ≡ true) × (leb (iov.base + iov.len) high ≡ true) = and_parts _ _ p.0 in
    (leb-true low iov.base q.0, all_behind low high iovs p.1)

only_payload : (r : RegionState) (iovs : List Iov) (carried : Carried) (payload : List ℕ) → OnlyBlocks r (with_payload r iovs carried payload)
only_payload r iovs (Moved parts) payload = only_back r iovs (scattered parts payload)
only_payload r iovs (Copied bytes) payload = go (lie_in_area r iovs) refl
  where
    go : (b : Bool) → lie_in_area r iovs ≡ b → OnlyBlocks r (cond b (copied_in r iovs payload) r)
    go true e = only_copied (length r.front) r iovs payload refl (all_behind (length r.front) (length (bytes_of r)) iovs e)
    go false e = only_same r

-- ==== the response

-- a response that lies in the front: its length stays, and all other bytes
pub record OnlyThere (at : ℕ) (front after : List ℕ) : Type 0 where
  pub long : length after ≡ length front
  pub others : (i : ℕ) → ¬ IsAnswered i at → slice_get after i ≡ slice_get front i

only_response : (front : List ℕ) (at id : ℕ) (reply : ReplyData) (told : Option ℕ) → ring_start + at + 112 ≤ length front → OnlyThere at front (with_response front at id reply told)
only_response front at id reply told fits =
    let bytes : List ℕ = response_bytes reply told in
    let lb : length bytes ≡ 105 = length-response reply told in
    let li : length (le 2 id) ≡ 2 = length-le 2 id in
    let named : List ℕ = put front (ring_start + at + 4) (le 2 id) in
    let ln : length named ≡ length front = length-put front (ring_start + at + 4) (le 2 id) (omega (arith, li, fits)) in
    record {
      long = length-put named (ring_start + at + 7) bytes (omega (arith, lb, ln, fits)) ∙ ln;
      others = λ i away_from.
          let away = apart i away_from in
          get-other named (ring_start + at + 7) bytes i (omega (arith, lb, ln, fits)) (⊎_elim (λ (k : i < ring_start + at + 7). inl k) (λ (k : ring_start + at + 112 ≤ i). inr (omega (arith, lb, k))) away.1)
          ∙ get-other front (ring_start + at + 4) (le 2 id) i (omega (arith, li, fits)) (⊎_elim (λ (k : i < ring_start + at + 4). inl k) (λ (k : ring_start + at + 6 ≤ i). inr (omega (arith, li, k))) away.0);
    }
  where
    apart : (i : ℕ) → ¬ IsAnswered i at → ((i < ring_start + at + 4) ⊎ (ring_start + at + 6 ≤ i)) × ((i < ring_start + at + 7) ⊎ (ring_start + at + 112 ≤ i))
    apart i none =
        ⊎_elim
        (λ (a : i < ring_start + at + 4). (inl a, inl (omega (arith, a))))
        (λ (a : ring_start + at + 4 ≤ i).
        ⊎_elim
        (λ (b : i < ring_start + at + 112).
        ⊎_elim
        (λ (e : eqb i (ring_start + at + 6) ≡ true). let q : i ≡ ring_start + at + 6 = eqb-true i (ring_start + at + 6) e in (inr (omega (arith, q)), inl (omega (arith, q))))
        (λ (e : eqb i (ring_start + at + 6) ≡ false). absurd (none (record { from_ = a; to = b; but = eqb-false i (ring_start + at + 6) e })))
        (cases_Bool (eqb i (ring_start + at + 6))))
        (λ (b : ring_start + at + 112 ≤ i). (inr (omega (arith, b)), inr b))
        (cases_lt i (ring_start + at + 112)))
        (cases_lt i (ring_start + at + 4))

-- ==== answers in order

-- what the answers so far kept and changed
pub record Answers (r : RegionState) (u : UserState) (k : Placing) : Type 0 where
  pub user : UserSound k.user
  pub ring_same : k.user.ring ≡ u.ring
  pub pages_same : k.user.pages ≡ u.pages
  pub front : length k.region.front ≡ length r.front
  pub pages : k.region.pages ≡ r.pages
  pub count : length k.region.blocks ≡ length r.blocks
  pub only : OnlyAnswers u.offsets r.front k.region.front
  -- the offsets that are left are of those at the start
  pub left : (i : ℕ) → Every (λ x. ¬ IsAnswered i x) u.offsets → Every (λ x. ¬ IsAnswered i x) k.user.offsets

answer_at : (r : RegionState) (u : UserState) (k : Placing) (p : Parked) (rest : List GivenJob) (ats : List ℕ) → HasRing r u → Answers r u k → k.user.offsets ≡ ats → Answers r u (placed_at k p rest ats)
answer_at r u k p rest [] er h e = h
answer_at r u k p rest (at ∷ ats) er h e =
    let given : RegionState = with_payload k.region p.job.iovs p.job.carried p.reply.payload in
    let o : OnlyBlocks k.region given = only_payload k.region p.job.iovs p.job.carried p.reply.payload in
    let fit : Every (λ x. x + 112 ≤ k.user.ring) (at ∷ ats) = subst (Every (λ x. x + 112 ≤ k.user.ring)) e h.user.offsets in
    let here : at + 112 ≤ k.user.ring = fit.0 in
    let w : OnlyThere at given.front (with_response given.front at p.job.id p.reply (told_length k.user.flags.read_len p.job.cdb p.reply)) =
    only_response given.front at p.job.id p.reply (told_length k.user.flags.read_len p.job.cdb p.reply) (omega (arith, here, h.ring_same, ap length o.front, h.front, er)) in
    record {
      user = record { ring = h.user.ring; place = h.user.place; tail = h.user.tail; items = h.user.items; offsets = fit.1 };
      ring_same = h.ring_same;
      pages_same = h.pages_same;
      front = w.long ∙ ap length o.front ∙ h.front;
      pages = o.pages ∙ h.pages;
      count = o.count ∙ h.count;
      only = λ i none.
          let now : Every (λ x. ¬ IsAnswered i x) (at ∷ ats) = subst (Every (λ x. ¬ IsAnswered i x)) e (h.left i none) in
          w.others i now.0 ∙ ap (λ xs. slice_get xs i) o.front ∙ h.only i none;
      left = λ i none. (subst (Every (λ x. ¬ IsAnswered i x)) e (h.left i none)).1;
    }

answer_front : (r : RegionState) (u : UserState) (k : Placing) (gs : List GivenJob) → HasRing r u → Answers r u k → Answers r u (placed_front k gs)
answer_front r u k [] er h = h
answer_front r u k (g ∷ gs) er h = go g.parked (λ p. answer_front r u (placed_one k p gs) gs er (answer_at r u k p gs k.user.offsets er h refl))
  where
    go : (o : Option Parked) → ((p : Parked) → Answers r u (placed_front (placed_one k p gs) gs)) → Answers r u (elim o as (λ x. Placing) [ None ↦ k | Some p ↦ placed_front (placed_one k p gs) gs ])
    go None rest = h
    go (Some p) rest = rest p

answers_none : (r : RegionState) (u : UserState) (jobs : List GivenJob) → UserSound u → Answers r u (record { region = r; user = with_jobs u jobs })
answers_none r u jobs h =
    record {
      user = record { ring = h.ring; place = h.place; tail = h.tail; items = h.items; offsets = h.offsets };
      ring_same = refl;
      pages_same = refl;
      front = refl;
      pages = refl;
      count = refl;
      only = λ i none. refl;
      left = λ i none. none;
    }

pub respond_keeps : (r : RegionState) (u : UserState) (p : Parked) → UserSound u → HasRing r u → Answers r u (user_responded r u p)
unfolding user_responded
respond_keeps r u p h er = go u.flags.ooo
  where
    jobs : List GivenJob
    jobs = with_first (is_open_job p.job.id) (with_parked p) u.jobs

    go : (b : Bool) → Answers r u (placing_by b r u p)
    go true = answer_at r u (record { region = r; user = u }) p (without_first (is_open_job p.job.id) u.jobs) u.offsets er (answers_none r u u.jobs h) refl
    go false = answer_front r u (record { region = r; user = with_jobs u jobs }) jobs er (answers_none r u jobs h)

pub respond_sizes : (r : RegionState) (u : UserState) (p : Parked) → UserSound u → HasRing r u → SameSizes r (user_responded r u p).region
respond_sizes r u p h er = let k = respond_keeps r u p h er in record { front = k.front; area = record { pages = k.pages; count = k.count } }

pub respond_ring : (r : RegionState) (u : UserState) (p : Parked) → UserSound u → HasRing r u → HasRing (user_responded r u p).region (user_responded r u p).user
respond_ring r u p h er = let k = respond_keeps r u p h er in omega (arith, k.front, k.ring_same, er)

-- ==== a publish

pub publish_sound : (u : UserState) → UserSound u → UserSound (user_published u)
unfolding user_published
publish_sound u h =
    let even : sum_by (λ (x : Recorded). x.len) (moving_items u) % 8 ≡ 0 = sum_even (moving_items u) (every-take (λ (x : Recorded). x.len % 8 ≡ 0) (moving u) u.items h.items) in
    let at : u.tail % 8 ≡ 0 = h.tail.aligned in
    record {
      ring = h.ring;
      place = h.place;
      tail = next_place u.ring (u.tail + sum_by (λ (x : Recorded). x.len) (moving_items u)) h.ring.least h.ring.pages (omega (arith, at, even));
      items = every-drop (λ (x : Recorded). x.len % 8 ≡ 0) (moving u) u.items h.items;
      offsets = h.offsets;
    }

pub publish_sizes : (r : RegionState) (u : UserState) → HasRing r u → SameSizes r (region_published r u)
unfolding region_published
publish_sizes r u er = go (eqb (moving u) 0)
  where
    go : (b : Bool) → SameSizes r (cond b r (record r { front = put r.front tail_place (le 4 (user_published u).tail) }))
    go true = record { front = refl; area = record { pages = refl; count = refl } }
    go false = record { front = length-put r.front tail_place (le 4 (user_published u).tail) (omega (arith, length-le 4 (user_published u).tail, er)); area = record { pages = refl; count = refl } }

pub publish_only : (r : RegionState) (u : UserState) → HasRing r u → OnlyTail r.front (region_published r u).front
unfolding region_published
publish_only r u er = go (eqb (moving u) 0)
  where
    go : (b : Bool) → OnlyTail r.front (cond b r (record r { front = put r.front tail_place (le 4 (user_published u).tail) })).front
    go true i h = refl
    go false i h =
        let l : length (le 4 (user_published u).tail) ≡ 4 = length-le 4 (user_published u).tail in
        get-other r.front tail_place (le 4 (user_published u).tail) i (omega (arith, l, er)) (⊎_elim (λ (k : i < tail_place). inl k) (λ (k : tail_place + 4 ≤ i). inr (omega (arith, l, k))) h)

pub publish_blocks : (r : RegionState) (u : UserState) → (region_published r u).blocks ≡ r.blocks
unfolding region_published
publish_blocks r u = go (eqb (moving u) 0)
  where
    go : (b : Bool) → (cond b r (record r { front = put r.front tail_place (le 4 (user_published u).tail) })).blocks ≡ r.blocks
    go true = refl
    go false = refl

-- ==== jobs that are given up

only_parked : (r : RegionState) (o : Option Parked) → OnlyBlocks r (with_parked_back r o)
only_parked r None = only_same r
only_parked r (Some p) = go p.job.carried
  where
    go : (c : Carried) → OnlyBlocks r (elim c as (λ x. RegionState) [ Moved parts ↦ given_back r p.job.iovs parts | Copied bytes ↦ r ])
    go (Moved parts) = only_back r p.job.iovs parts
    go (Copied bytes) = only_same r

only_abandoned : (r : RegionState) (gs : List GivenJob) → OnlyBlocks r (region_abandoned r gs)
unfolding region_abandoned
only_abandoned r [] = only_same r
only_abandoned r (g ∷ gs) = only_more r (with_parked_back r g.parked) (region_abandoned (with_parked_back r g.parked) gs) (only_parked r g.parked) (only_abandoned (with_parked_back r g.parked) gs)

pub reattach_only : (r : RegionState) (u : UserState) → OnlyBlocks r (region_reattached r u)
unfolding region_reattached
reattach_only r u = go (user_attached r)
  where
    go : (o : Result UserState MailboxFault) → OnlyBlocks r (or_refused r u.jobs o)
    go (Err fault) = only_same r
    go (Ok v) = only_abandoned r u.jobs

pub reattach_sizes : (r : RegionState) (u : UserState) → SameSizes r (region_reattached r u)
reattach_sizes r u = let k = reattach_only r u in record { front = ap length k.front; area = record { pages = k.pages; count = k.count } }

pub abandon_sound : (u : UserState) → UserSound u → UserSound (user_abandoned u)
unfolding user_abandoned
abandon_sound u h = record { ring = h.ring; place = h.place; tail = h.tail; items = h.items; offsets = h.offsets }
