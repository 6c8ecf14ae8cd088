-- The jobs of a device go back into a region's blocks: those in hand, and those that are parked.
use Rattle.std.proofs.Common.{◌≡◌, ℕ, ◌+◌, ◌-◌, ◌*◌, ◌/◌, ◌≤◌, true, false, cond, List, [], ◌∷◌, ◌++◌, length, filter, refl, sym, ap, ◌∙◌, arith, subst, ⊎_elim}
use Rattle.std.proofs.lemmas.Bool.{cases_Bool, false≢true, or_right}
use Rattle.tcmu_types.specs.Data.{SettingsData}
use Rattle.tcmu_types.specs.Rules.{payload_length}
use Rattle.tcmu_model.specs.declared.state.CommandState.TheVariants.{Parked}
use Rattle.tcmu_model.specs.Lengths.{blocks_of, block_size}
use Rattle.tcmu_model.specs.Device.{Unfinished, has_state}
use Rattle.tcmu_model.specs.Events.{is_in_hand}
use Rattle.tcmu_types.specs.Lists.{Every}
use Rattle.tcmu_model.specs.BlockLists.{Taken, list_of}
use Rattle.region_model.specs.Iovecs.{iovs_along}
use Rattle.region_model.specs.Layout.{data_start}
use Rattle.region_model.specs.Regions.{RegionState, numbers_of, named_by, returned, size_of}
use Rattle.tcmu_types.proofs.Everies.{every-filter, filter_twice}
use Rattle.region_model.specs.Sides.{PendingRow, Carried, GivenJob, InHand, JobState, UserState}
use Rattle.region_model.specs.Represents.{AreGiven, AreOut, IsJobOf, is_out}
use Rattle.region_model.specs.UserSteps.{region_abandoned, with_job_back, with_parked_back}
use Rattle.ring_laws.specs.Restarted.{region_restarted, region_with_hand}
use Rattle.ring_laws.proofs.placed.AnswerData.{iovs-numbers}
use Rattle.ring_laws.proofs.restarted.GivenBack.{all_back, AreParts, ArePartsOf, back-append, parts-append}
use Rattle.ring_laws.proofs.Matched.{matched, unmatched}

-- a region of a device with these settings
pub record OfSettings (r : RegionState) (s : SettingsData) : Type 0 where
  pub low : 1 ≤ s.pages
  pub long : length r.front ≡ data_start s.ring
  pub pages : r.pages ≡ s.pages

-- each of these commands has a list of as many blocks as it needs
abbrev pub HaveLists : SettingsData → List Taken → List Unfinished → Type 0
HaveLists s lists us = Every (λ u. length (list_of lists u.serial) ≡ blocks_of s.pages u.command) us

-- one region comes from another as the blocks of these commands go back with their payloads
pub record GoesBack (size : ℕ) (lists : List Taken) (r r' : RegionState) (us : List Unfinished) : Type 0 where
  pub parts : List (List (List ℕ))
  pub are : AreParts size lists us parts
  pub comes : r' ≡ record r { blocks = all_back lists r.blocks us parts }

-- ==== one job

job_back : (r : RegionState) (s : SettingsData) (rows : List PendingRow) (lists : List Taken) (u : Unfinished) (job : JobState) (parts : List (List ℕ)) → OfSettings r s → length (list_of lists u.serial) ≡ blocks_of s.pages u.command →
    IsJobOf s rows lists u job parts → with_job_back r job ≡ record r { blocks = returned r.blocks (list_of lists u.serial) parts }
job_back r s rows lists u job parts h sz j =
    let size : ℕ = block_size s.pages in
    let start : ℕ = data_start s.ring in
    let bs : List ℕ = list_of lists u.serial in
    let n : ℕ = payload_length u.command in
    let sb : size * length bs ≡ size * ((n + (size - 1)) / size) = ap (λ y. size * y) sz in
    let low : 1 ≤ s.pages = h.low in
    let along : numbers_of start size (iovs_along start size bs n) ≡ bs = iovs-numbers start size bs n (omega arith) (omega arith) (omega arith) in
    let numbers : named_by r job.iovs ≡ bs = ap (λ y. numbers_of y (size_of r) job.iovs) h.long ∙ ap (λ y. numbers_of start (block_size y) job.iovs) h.pages ∙ ap (numbers_of start size) j.iovs ∙ along in
    ap (λ (c : Carried). with_job_back r (record job { carried = c })) j.carried ∙ ap (λ ns. record r { blocks = returned r.blocks ns parts }) numbers

parts_of_job : (s : SettingsData) (rows : List PendingRow) (lists : List Taken) (u : Unfinished) (job : JobState) (parts : List (List ℕ)) → IsJobOf s rows lists u job parts → ArePartsOf (block_size s.pages) lists u parts
parts_of_job s rows lists u job parts j = record { count = j.count; sized = j.size; payload = j.payload }

-- ==== all jobs

hand_back : (r : RegionState) (s : SettingsData) (rows : List PendingRow) (lists : List Taken) (hs : List InHand) (us : List Unfinished) → OfSettings r s → HaveLists s lists us → AreOut s rows lists hs us →
    GoesBack (block_size s.pages) lists r (region_with_hand r hs) us
hand_back r s rows lists [] [] h sz a = record { parts = []; are = tt; comes = refl }
hand_back r s rows lists [] (u ∷ us) h sz a = absurd a
hand_back r s rows lists (x ∷ hs) [] h sz a = absurd a
hand_back r s rows lists (x ∷ hs) (u ∷ us) h sz a =
    let ps : List (List ℕ) = a.0.2.0 in
    let j : IsJobOf s rows lists u x.job ps = a.0.2.1 in
    let r1 : RegionState = record r { blocks = returned r.blocks (list_of lists u.serial) ps } in
    let ih : GoesBack (block_size s.pages) lists r1 (region_with_hand r1 hs) us = hand_back r1 s rows lists hs us (record { low = h.low; long = h.long; pages = h.pages }) sz.1 a.1 in
    record {
      parts = ps ∷ ih.parts;
      are = (parts_of_job s rows lists u x.job ps j, ih.are);
      comes = ap (λ (z : RegionState). region_with_hand z hs) (job_back r s rows lists u x.job ps h sz.0 j) ∙ ih.comes;
    }

parked_back : (r : RegionState) (s : SettingsData) (rows : List PendingRow) (lists : List Taken) (gs : List GivenJob) (us : List Unfinished) → OfSettings r s → HaveLists s lists us → AreGiven s rows lists gs us →
    GoesBack (block_size s.pages) lists r (region_abandoned r gs) (filter (has_state Parked) us)
unfolding region_abandoned
parked_back r s rows lists [] [] h sz a = record { parts = []; are = tt; comes = refl }
parked_back r s rows lists [] (u ∷ us) h sz a = absurd a
parked_back r s rows lists (g ∷ gs) [] h sz a = absurd a
parked_back r s rows lists (g ∷ gs) (u ∷ us) h sz a =
    let size : ℕ = block_size s.pages in
    let rest : List Unfinished = filter (has_state Parked) us in
    ⊎_elim
    (λ (k : has_state Parked u ≡ true).
    let m = matched (has_state Parked u) _ _ k a.0.1 in
    let ps : List (List ℕ) = m.3 in
    let j : IsJobOf s rows lists u m.0.job ps = m.4 in
    let r1 : RegionState = record r { blocks = returned r.blocks (list_of lists u.serial) ps } in
    let one : with_parked_back r g.parked ≡ r1 = ap (with_parked_back r) m.1 ∙ job_back r s rows lists u m.0.job ps h sz.0 j in
    let ih : GoesBack size lists r1 (region_abandoned r1 gs) rest = parked_back r1 s rows lists gs us (record { low = h.low; long = h.long; pages = h.pages }) sz.1 a.1 in
    let all : GoesBack size lists r (region_abandoned r (g ∷ gs)) (u ∷ rest) = record {
      parts = ps ∷ ih.parts;
      are = (parts_of_job s rows lists u m.0.job ps j, ih.are);
      comes = ap (λ (z : RegionState). region_abandoned z gs) one ∙ ih.comes;
    } in
    subst (λ b. GoesBack size lists r (region_abandoned r (g ∷ gs)) (cond b (u ∷ rest) rest)) (sym k) all)
    (λ (k : has_state Parked u ≡ false).
    let one : with_parked_back r g.parked ≡ r = ap (with_parked_back r) (unmatched (has_state Parked u) _ _ k a.0.1) in
    let ih : GoesBack size lists r (region_abandoned r gs) rest = parked_back r s rows lists gs us h sz.1 a.1 in
    let all : GoesBack size lists r (region_abandoned r (g ∷ gs)) rest = record { parts = ih.parts; are = ih.are; comes = ap (λ (z : RegionState). region_abandoned z gs) one ∙ ih.comes } in
    subst (λ b. GoesBack size lists r (region_abandoned r (g ∷ gs)) (cond b (u ∷ rest) rest)) (sym k) all)
    (cases_Bool (has_state Parked u))

pub parked_among : (us : List Unfinished) → filter (has_state Parked) (filter is_in_hand us) ≡ filter (has_state Parked) us
parked_among us = filter_twice is_in_hand (has_state Parked) (has_state Parked) us (λ u k. only u k) (λ u k. refl)
  where
    only : (u : Unfinished) → is_in_hand u ≡ false → has_state Parked u ≡ false
    only u k = ⊎_elim (λ (z : has_state Parked u ≡ true). absurd (false≢true (sym k ∙ or_right _ (has_state Parked u) z))) (λ z. z) (cases_Bool (has_state Parked u))

pub all_jobs_back : (r : RegionState) (s : SettingsData) (rows : List PendingRow) (lists : List Taken) (hand : List InHand) (user : UserState) (us : List Unfinished) → OfSettings r s → HaveLists s lists us →
    AreOut s rows lists hand (filter is_out us) → AreGiven s rows lists user.jobs (filter is_in_hand us) →
    GoesBack (block_size s.pages) lists r (region_restarted r hand user) (filter is_out us ++ filter (has_state Parked) us)
unfolding region_restarted
all_jobs_back r s rows lists hand user us h sz out given =
    let size : ℕ = block_size s.pages in
    let outs : List Unfinished = filter is_out us in
    let parked : List Unfinished = filter (has_state Parked) (filter is_in_hand us) in
    let P : Unfinished → Type 0 = λ u. length (list_of lists u.serial) ≡ blocks_of s.pages u.command in
    let a : GoesBack size lists r (region_with_hand r hand) outs = hand_back r s rows lists hand outs h (every-filter is_out P us sz) out in
    let r1 : RegionState = record r { blocks = all_back lists r.blocks outs a.parts } in
    let b : GoesBack size lists r1 (region_abandoned r1 user.jobs) parked =
    parked_back r1 s rows lists user.jobs (filter is_in_hand us) (record { low = h.low; long = h.long; pages = h.pages }) (every-filter is_in_hand P us sz) given in
    let all : GoesBack size lists r (region_abandoned (region_with_hand r hand) user.jobs) (outs ++ parked) = record {
      parts = a.parts ++ b.parts;
      are = parts-append lists size outs parked a.parts b.parts a.are b.are;
      comes = ap (λ (z : RegionState). region_abandoned z user.jobs) a.comes ∙ b.comes ∙ ap (λ area. record r { blocks = area }) (sym (back-append lists size r.blocks outs parked a.parts b.parts a.are));
    } in
    subst (λ (vs : List Unfinished). GoesBack size lists r (region_abandoned (region_with_hand r hand) user.jobs) (outs ++ vs)) (parked_among us) all
