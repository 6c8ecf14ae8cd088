-- What a restart keeps, point by point.
use Rattle.std.proofs.Common.{◌≡◌, ℕ, ◌||◌, not, Bool, true, false, List, [], ◌∷◌, ◌++◌, map, filter, refl, sym, ap, ◌∙◌, Option, Some, None, slice_get, subst, ⊎_elim}
use Rattle.std.specs.Bool.{MatchBool}
use Rattle.std.proofs.lemmas.Bool.{cases_Bool, true≢false, false≢true, or_parts, or_left, or_right}
use Rattle.tcmu_model.specs.declared.state.CommandState.{CommandState}
use Rattle.tcmu_model.specs.declared.state.CommandState.TheVariants.{Waiting, Out, Handled, Parked, Placed, Lost}
use Rattle.tcmu_model.specs.Lengths.{block_size}
use Rattle.tcmu_model.specs.Device.{Unfinished, DeviceState, has_state}
use Rattle.tcmu_model.specs.Events.{is_in_hand, lose, answered, after_restart}
use Rattle.tcmu_types.specs.Numbers.{is_among, Differ}
use Rattle.tcmu_model.specs.Sound.{IsSound}
use Rattle.tcmu_types.specs.Lists.{Every}
use Rattle.tcmu_model.specs.BlockLists.{Taken, list_of, held_by}
use Rattle.region_model.specs.Layout.{data_start}
use Rattle.region_model.specs.Regions.{RegionState}
use Rattle.region_model.specs.Areas.{IsLent}
use Rattle.region_model.specs.Picture.{payload_of}
use Rattle.tcmu_types.proofs.Everies.{every-map, every-append, every-front, every-back, every-filter, every-passes, map_kept}
use Rattle.region_model.specs.Sides.{Carried, Moved, Copied, GivenJob, InHand, JobState, Parked as ParkedJob, PendingRow, Recorded, TargetState, UserState}
use Rattle.region_model.specs.Represents.{AreGiven, AreOut, BlocksOf, BlocksStand, HaveData, IdsStand, JobsStand, NotesStand, RingStands, TargetKeeps, UserKeeps, is_out, pending_of}
use Rattle.region_model.specs.UserSteps.{region_abandoned, user_abandoned, with_job_back, with_parked_back}
use Rattle.tcmu_model.specs.Owned.{ListsSound}
use Rattle.ring_laws.specs.Restarted.{region_restarted, region_with_hand}
use Rattle.ring_laws.proofs.laid.LaidBlocks.{among-filter, every-join}
use Rattle.ring_laws.proofs.ticked.Ticked.{ring_by, ids_by}
use Rattle.ring_laws.proofs.restarted.GivenBack.{all_back, back-other, back-data, data-other, held-home}
use Rattle.ring_laws.proofs.restarted.HeldApart.{every-picked, picked-apart, picked-held, held-joined, differ-both}
use Rattle.ring_laws.proofs.restarted.JobsBack.{GoesBack, all_jobs_back}
use Rattle.ring_laws.proofs.restarted.Lost.{lost_blind, lost_hand, lost_payload, none_in_hand, answers_lost}
use Rattle.ring_laws.proofs.Matched.{matched, unmatched}
use Rattle.tcmu_types.proofs.Rises.{among-append}

-- ==== the region but for its blocks

-- all but a region's blocks is as before
pub record SameFront (r r' : RegionState) : Type 0 where
  pub front : r'.front ≡ r.front
  pub pages : r'.pages ≡ r.pages

job_front : (r : RegionState) (job : JobState) → SameFront r (with_job_back r job)
job_front r job = by_carried job.carried
  where
    by_carried : (c : Carried) → SameFront r (with_job_back r (record job { carried = c }))
    by_carried (Moved parts) = record { front = refl; pages = refl }
    by_carried (Copied bytes) = record { front = refl; pages = refl }

hand_front : (r : RegionState) (hs : List InHand) → SameFront r (region_with_hand r hs)
hand_front r [] = record { front = refl; pages = refl }
hand_front r (h ∷ hs) =
    let a = job_front r h.job in
    let b = hand_front (with_job_back r h.job) hs in
    record { front = b.front ∙ a.front; pages = b.pages ∙ a.pages }

parked_front : (r : RegionState) (o : Option ParkedJob) → SameFront r (with_parked_back r o)
parked_front r None = record { front = refl; pages = refl }
parked_front r (Some p) = job_front r p.job

abandoned_front : (r : RegionState) (gs : List GivenJob) → SameFront r (region_abandoned r gs)
unfolding region_abandoned
abandoned_front r [] = record { front = refl; pages = refl }
abandoned_front r (g ∷ gs) =
    let a = parked_front r g.parked in
    let b = abandoned_front (with_parked_back r g.parked) gs in
    record { front = b.front ∙ a.front; pages = b.pages ∙ a.pages }

pub front_restarted : (r : RegionState) (hand : List InHand) (user : UserState) → SameFront r (region_restarted r hand user)
unfolding region_restarted
front_restarted r hand user =
    let a = hand_front r hand in
    let b = abandoned_front (region_with_hand r hand) user.jobs in
    record { front = b.front ∙ a.front; pages = b.pages ∙ a.pages }

pub pages_restarted : (r : RegionState) (user : UserState) (hand : List InHand) (d : DeviceState) → r.pages ≡ d.settings.pages → (region_restarted r hand user).pages ≡ (after_restart d).settings.pages
unfolding after_restart
pages_restarted r user hand d h = let f = front_restarted r hand user in f.pages ∙ h

-- ==== ring, ids, notes

pub ring_restarted : (r : RegionState) (user : UserState) (hand : List InHand) (items : List Recorded) (d : DeviceState) (lists : List Taken) → IsSound d → RingStands r.front items d lists →
    RingStands (region_restarted r hand user).front items (after_restart d) lists
unfolding after_restart
ring_restarted r user hand items d lists sound h =
    let f = front_restarted r hand user in
    subst (λ (front : List ℕ). RingStands front items (record d { attached = false; unfinished = map (lose (answered d)) d.unfinished }) lists) (sym f.front)
    (ring_by r.front items d d.now d.blocked false (map (lose (answered d)) d.unfinished) d.delayed d.log lists (λ k q g rl id request. answers_lost d k q sound g rl id request) h)

pub ids_restarted : (r : RegionState) (user : UserState) (hand : List InHand) (rows : List PendingRow) (d : DeviceState) → IdsStand r.front rows d → IdsStand (region_restarted r hand user).front rows (after_restart d)
unfolding after_restart
ids_restarted r user hand rows d h =
    let f = front_restarted r hand user in
    subst (λ (front : List ℕ). IdsStand front rows (record d { attached = false; unfinished = map (lose (answered d)) d.unfinished })) (sym f.front)
    (ids_by r.front rows d d.now d.blocked false (map (lose (answered d)) d.unfinished) d.delayed d.log h)

pub notes_restarted : (r : RegionState) (user : UserState) (hand : List InHand) (rows : List PendingRow) (d : DeviceState) → NotesStand r.front rows d → NotesStand (region_restarted r hand user).front rows (after_restart d)
unfolding after_restart
notes_restarted r user hand rows d h =
    let f = front_restarted r hand user in
    subst (λ (front : List ℕ). NotesStand front rows (record d { attached = false; unfinished = map (lose (answered d)) d.unfinished })) (sym f.front) h

-- ==== blocks

unmatch : (b : Bool) (P Q : Type 0) → b ≡ false → Q → MatchBool b P Q
unmatch true P Q e h = absurd (true≢false e)
unmatch false P Q e h = h

-- a command in hand is out, or parked
pub in_hand_is : (u : Unfinished) → is_in_hand u ≡ (is_out u || has_state Parked u)
in_hand_is u =
    ⊎_elim
    (λ (k : has_state Out u ≡ true). rw k refl)
    (λ (k : has_state Out u ≡ false). rw k refl)
    (cases_Bool (has_state Out u))

out_in_hand : (u : Unfinished) → is_out u ≡ true → is_in_hand u ≡ true
out_in_hand u h = in_hand_is u ∙ or_left (is_out u) (has_state Parked u) h

parked_in_hand : (u : Unfinished) → has_state Parked u ≡ true → is_in_hand u ≡ true
parked_in_hand u h = in_hand_is u ∙ or_right (is_out u) (has_state Parked u) h

neither : (u : Unfinished) → is_in_hand u ≡ false → (is_out u ≡ false) × (has_state Parked u ≡ false)
neither u h = or_parts (is_out u) (has_state Parked u) (sym (in_hand_is u) ∙ h)

out_not_parked : (u : Unfinished) → is_out u ≡ true → has_state Parked u ≡ false
out_not_parked u = by_state u.state refl
  where
    by_state : (t : CommandState) → u.state ≡ t → is_out u ≡ true → has_state Parked u ≡ false
    by_state Waiting e h = rw e refl
    by_state Out e h = rw e refl
    by_state Handled e h = rw e refl
    by_state Parked e h = let z : false ≡ true = rw e at h in absurd (cc)
    by_state Placed e h = rw e refl
    by_state Lost e h = rw e refl

not_in_hand : (u : Unfinished) → not (is_in_hand u) ≡ true → is_in_hand u ≡ false
not_in_hand u h =
    ⊎_elim
    (λ (k : is_in_hand u ≡ true). let z : false ≡ true = rw k at h in absurd (cc))
    (λ (k : is_in_hand u ≡ false). k)
    (cases_Bool (is_in_hand u))

-- those in hand are lent
lent-of : (size : ℕ) (area : List (Option (List ℕ))) (lists : List Taken) (p : Unfinished → Bool) (us : List Unfinished) → ((u : Unfinished) → p u ≡ true → is_in_hand u ≡ true) → Every (BlocksOf size area lists) us →
    Every (λ (u : Unfinished). Every (IsLent area) (list_of lists u.serial)) (filter p us)
lent-of size area lists p us h e =
    every-join (BlocksOf size area lists) (λ u. p u ≡ true) (λ (u : Unfinished). Every (IsLent area) (list_of lists u.serial)) (filter p us)
    (λ u st k. matched (is_in_hand u) _ _ (h u k) st) (every-filter p (BlocksOf size area lists) us e) (every-passes p us)

-- the others have their data
data-of : (size : ℕ) (area : List (Option (List ℕ))) (lists : List Taken) (us : List Unfinished) → Every (BlocksOf size area lists) us →
    Every (λ (u : Unfinished). HaveData size area (list_of lists u.serial) (payload_of u)) (filter (λ u. not (is_in_hand u)) us)
data-of size area lists us e =
    let q : Unfinished → Bool = λ u. not (is_in_hand u) in
    every-join (BlocksOf size area lists) (λ u. q u ≡ true) (λ (u : Unfinished). HaveData size area (list_of lists u.serial) (payload_of u)) (filter q us)
    (λ u st k. unmatched (is_in_hand u) _ _ (not_in_hand u k) st) (every-filter q (BlocksOf size area lists) us e) (every-passes q us)

data-stays : (size : ℕ) (area area' : List (Option (List ℕ))) (lists : List Taken) (us : List Unfinished) → ((b : ℕ) → is_among (held_by lists us) b ≡ true → slice_get area' b ≡ slice_get area b) →
    Every (λ (u : Unfinished). HaveData size area (list_of lists u.serial) (payload_of u)) us → Every (λ (u : Unfinished). HaveData size area' (list_of lists u.serial) (payload_of u)) us
data-stays size area area' lists [] same e = tt
data-stays size area area' lists (u ∷ us) same e =
    let bs : List ℕ = list_of lists u.serial in (
      data-other size area area' bs (payload_of u) (λ b h. same b (among-append bs (held_by lists us) b ∙ or_left (is_among bs b) (is_among (held_by lists us) b) h)) e.0,
      data-stays size area area' lists us (λ b h. same b (among-append bs (held_by lists us) b ∙ or_right (is_among bs b) (is_among (held_by lists us) b) h)) e.1,
    )

-- once all blocks are back, each command's are at home with its payload
all-home : (size : ℕ) (area : List (Option (List ℕ))) (lists : List Taken) (us : List Unfinished) (pss : List (List (List ℕ))) → Differ (held_by lists us) → Every (BlocksOf size area lists) us →
    ((b : ℕ) → is_among (held_by lists (filter is_out us ++ filter (has_state Parked) us)) b ≡ false → slice_get (all_back lists area (filter is_out us ++ filter (has_state Parked) us) pss) b ≡ slice_get area b) →
    Every (λ (u : Unfinished). HaveData size (all_back lists area (filter is_out us ++ filter (has_state Parked) us) pss) (list_of lists u.serial) (payload_of u)) (filter is_out us ++ filter (has_state Parked) us) →
    Every (λ (u : Unfinished). HaveData size (all_back lists area (filter is_out us ++ filter (has_state Parked) us) pss) (list_of lists u.serial) (payload_of u)) us
all-home size area lists us pss differ all other filled =
    let outs : List Unfinished = filter is_out us in
    let parked : List Unfinished = filter (has_state Parked) us in
    let area' : List (Option (List ℕ)) = all_back lists area (outs ++ parked) pss in
    let D : Unfinished → Type 0 = λ u. HaveData size area' (list_of lists u.serial) (payload_of u) in
    let q : Unfinished → Bool = λ u. not (is_in_hand u) in
    let away : (b : ℕ) → is_among (held_by lists (filter q us)) b ≡ true → is_among (held_by lists (outs ++ parked)) b ≡ false = λ b h.
    ap (λ bs. is_among bs b) (held-joined lists outs parked) ∙ among-append (held_by lists outs) (held_by lists parked) b
    ∙ ap (λ z. z || is_among (held_by lists parked) b) (picked-apart lists q is_out us b (λ u k. (neither u (not_in_hand u k)).0) differ h)
    ∙ picked-apart lists q (has_state Parked) us b (λ u k. (neither u (not_in_hand u k)).1) differ h in
    let stay : Every D (filter q us) = data-stays size area area' lists (filter q us) (λ b h. other b (away b h)) (data-of size area lists us all) in
    let a : Every (λ u. is_out u ≡ true → D u) us = every-picked is_out D us (every-front D outs parked filled) in
    let b : Every (λ u. has_state Parked u ≡ true → D u) us = every-picked (has_state Parked) D us (every-back D outs parked filled) in
    let c : Every (λ u. q u ≡ true → D u) us = every-picked q D us stay in
    let ab : Every (λ u. is_in_hand u ≡ true → D u) us = every-join (λ u. is_out u ≡ true → D u) (λ u. has_state Parked u ≡ true → D u) (λ u. is_in_hand u ≡ true → D u) us
    (λ u f g h.
    ⊎_elim
    (λ (k : is_out u ≡ true). f k)
    (λ (k : is_out u ≡ false). g (sym (in_hand_is u ∙ ap (λ z. z || has_state Parked u) k) ∙ h))
    (cases_Bool (is_out u))) a b in
    every-join (λ u. is_in_hand u ≡ true → D u) (λ u. q u ≡ true → D u) D us
    (λ u f g. ⊎_elim (λ (k : is_in_hand u ≡ true). f k) (λ (k : is_in_hand u ≡ false). g (ap not k)) (cases_Bool (is_in_hand u))) ab c

lost-home : (size : ℕ) (area : List (Option (List ℕ))) (lists : List Taken) (answers : List ℕ) (u : Unfinished) → HaveData size area (list_of lists u.serial) (payload_of u) → BlocksOf size area lists (lose answers u)
lost-home size area lists answers u h =
    unmatch (is_in_hand (lose answers u)) _ _ (lost_hand answers u)
    (subst (λ s. HaveData size area (list_of lists s) (payload_of (lose answers u))) (sym (lost_blind (λ v. v.serial) answers u (λ t o. refl)))
    (subst (λ (bytes : List ℕ). HaveData size area (list_of lists u.serial) bytes) (sym (lost_payload answers u)) h))

pub blocks_restarted : (r : RegionState) (user : UserState) (hand : List InHand) (items : List Recorded) (rows : List PendingRow) (d : DeviceState) (lists : List Taken) → IsSound d → ListsSound d lists → RingStands r.front items d lists →
    r.pages ≡ d.settings.pages → BlocksStand r.blocks d lists → JobsStand user hand rows d lists → BlocksStand (region_restarted r hand user).blocks (after_restart d) lists
unfolding after_restart
blocks_restarted r user hand items rows d lists sound owned ring pages stand jobs =
    let size : ℕ = block_size d.settings.pages in
    let us : List Unfinished = d.unfinished in
    let outs : List Unfinished = filter is_out us in
    let parked : List Unfinished = filter (has_state Parked) us in
    let back : GoesBack size lists r (region_restarted r hand user) (outs ++ parked) =
    all_jobs_back r d.settings rows lists hand user us (record { low = sound.settings.pages_low; long = ring.long ∙ ap data_start sound.ring.size; pages = pages }) owned.sizes jobs.out jobs.given in
    let area' : List (Option (List ℕ)) = all_back lists r.blocks (outs ++ parked) back.parts in
    let lent = every-append (λ (u : Unfinished). Every (IsLent r.blocks) (list_of lists u.serial)) outs parked (lent-of size r.blocks lists is_out us out_in_hand stand.all) (lent-of size r.blocks lists (has_state Parked) us parked_in_hand stand.all) in
    let filled = back-data size lists r.blocks (outs ++ parked) back.parts (differ-both lists is_out (has_state Parked) us out_not_parked owned.differ) lent back.are in
    let other : (b : ℕ) → is_among (held_by lists (outs ++ parked)) b ≡ false → slice_get area' b ≡ slice_get r.blocks b = λ b h. back-other lists r.blocks (outs ++ parked) back.parts b h in
    let home : Every (λ (u : Unfinished). HaveData size area' (list_of lists u.serial) (payload_of u)) us = all-home size r.blocks lists us back.parts owned.differ stand.all other filled in
    let none : (b : ℕ) → IsLent area' b → ⊥ = λ b l.
    ⊎_elim
    (λ (m : is_among (held_by lists us) b ≡ true). let i = held-home size area' lists us b home m in let z : Some (Some i.0) ≡ Some None = sym i.1 ∙ l in absurd (cc))
    (λ (m : is_among (held_by lists us) b ≡ false).
    let away : is_among (held_by lists (outs ++ parked)) b ≡ false =
    ap (λ bs. is_among bs b) (held-joined lists outs parked) ∙ among-append (held_by lists outs) (held_by lists parked) b ∙ ap (λ z. z || is_among (held_by lists parked) b) (among-filter lists is_out us b m) ∙ among-filter lists (has_state Parked) us b m in
    absurd (false≢true (sym m ∙ picked-held lists is_in_hand us b (stand.just b (sym (other b away) ∙ l)))))
    (cases_Bool (is_among (held_by lists us) b)) in
    subst (λ (area : List (Option (List ℕ))). BlocksStand area (record d { attached = false; unfinished = map (lose (answered d)) us }) lists) (sym (ap (λ (z : RegionState). z.blocks) back.comes))
    (record {
      all = every-map (lose (answered d)) (λ (u : Unfinished). HaveData size area' (list_of lists u.serial) (payload_of u)) (BlocksOf size area' lists) us (λ u h. lost-home size area' lists (answered d) u h) home;
      just = λ b l. absurd (none b l);
    })

-- ==== jobs and records

pub jobs_restarted : (user : UserState) (hand : List InHand) (rows : List PendingRow) (d : DeviceState) (lists : List Taken) → JobsStand user hand rows d lists → JobsStand (user_abandoned user) [] rows (after_restart d) lists
unfolding after_restart user_abandoned
jobs_restarted user hand rows d lists h =
    record {
      given = subst (AreGiven d.settings rows lists []) (sym (none_in_hand (answered d) d.unfinished is_in_hand (λ u k. k))) tt;
      out = subst (AreOut d.settings rows lists []) (sym (none_in_hand (answered d) d.unfinished is_out (λ u k. (neither u k).0))) tt;
      offsets = h.offsets;
    }

pub target_restarted : (t : TargetState) (d : DeviceState) (lists : List Taken) → TargetKeeps t d lists → TargetKeeps t (after_restart d) lists
unfolding after_restart
target_restarted t d lists h =
    record {
      settings = h.settings;
      now = h.now;
      blocked = h.blocked;
      accepted = h.accepted;
      rows = h.rows ∙ sym (map_kept (lose (answered d)) (pending_of lists) d.unfinished (λ u. lost_blind (pending_of lists) (answered d) u (λ t o. refl)));
      delayed = h.delayed;
      cleaned = h.cleaned;
      laid = h.laid;
      cleared = h.cleared;
      broken = h.broken;
      log = h.log;
    }

pub side_restarted : (user : UserState) (d : DeviceState) → UserKeeps user d → UserKeeps (user_abandoned user) (after_restart d)
unfolding after_restart user_abandoned
side_restarted user d h =
    record {
      ring = h.ring;
      pages = h.pages;
      flags = h.flags;
      tail = h.tail;
      dispatched = h.dispatched;
      placed = h.placed;
      published = h.published;
      place = λ a. absurd (false≢true a);
      items = λ a. absurd (false≢true a);
    }
