-- The job of a respond is open, and whole.
use Rattle.std.proofs.Common.{◌≡◌, ℕ, ◌+◌, ◌-◌, ◌*◌, ◌/◌, ◌≤◌, true, false, List, [], ◌∷◌, length, filter, refl, sym, ap, ◌∙◌, arith, Some, subst, ⊎_elim}
use Rattle.std.specs.List.{list_any}
use Rattle.std.proofs.lemmas.Bool.{cases_Bool, or_right}
use Rattle.tcmu_types.specs.Data.{SettingsData}
use Rattle.tcmu_types.specs.Lists.{first_of}
use Rattle.tcmu_types.specs.Rules.{payload_length}
use Rattle.tcmu_types.proofs.Everies.{every-first}
use Rattle.tcmu_model.specs.declared.state.CommandState.TheVariants.{Handled}
use Rattle.tcmu_model.specs.Lengths.{block_size, blocks_of}
use Rattle.tcmu_model.specs.Device.{DeviceState, Unfinished, is_at}
use Rattle.tcmu_model.specs.Events.{is_in_hand}
use Rattle.tcmu_model.proofs.CommandStates.{state_at}
use Rattle.tcmu_model.specs.BlockLists.{Taken, list_of}
use Rattle.region_model.specs.Iovecs.{iovs_along}
use Rattle.region_model.specs.Layout.{data_start}
use Rattle.region_model.specs.Regions.{HaveSize, numbers_of}
use Rattle.region_model.specs.Sides.{GivenJob, Moved, Parked, PendingRow, UserState}
use Rattle.region_model.specs.Represents.{AreGiven, UserKeeps, id_of}
use Rattle.region_model.specs.UserSteps.{is_open_job}
use Rattle.ring_laws.specs.Responded.{CanRespond}
use Rattle.ring_laws.specs.UserKept.{IsWholeJob}
use Rattle.ring_laws.proofs.placed.AnswerData.{iovs-numbers}
use Rattle.ring_laws.proofs.responded.RespondedJobs.{opens}

-- ==== it is open

given_open : (st : SettingsData) (rows : List PendingRow) (lists : List Taken) (s id : ℕ) (gs : List GivenJob) (us : List Unfinished) (w : Unfinished) →
    first_of (is_at s Handled) us ≡ Some w → id_of rows w.serial ≡ Some id → AreGiven st rows lists gs (filter is_in_hand us) → list_any (is_open_job id) gs ≡ true
given_open st rows lists s id gs [] w f i h = absurd (cc)
given_open st rows lists s id gs (v ∷ us) w f i h =
    ⊎_elim
    (λ (e : is_at s Handled v ≡ true).
    let g : Some v ≡ Some w = rw e at f in
    let q : v ≡ w = cc in
    here gs (state_at s Handled v e) (ap (λ (x : Unfinished). id_of rows x.serial) q ∙ i) h)
    (λ (e : is_at s Handled v ≡ false).
    let g : first_of (is_at s Handled) us ≡ Some w = rw e at f in
    ⊎_elim
    (λ (n : is_in_hand v ≡ true). let h' : AreGiven st rows lists gs (v ∷ filter is_in_hand us) = rw n at h in behind gs (λ xs k. given_open st rows lists s id xs us w g i k) h')
    (λ (n : is_in_hand v ≡ false). let h' : AreGiven st rows lists gs (filter is_in_hand us) = rw n at h in given_open st rows lists s id gs us w g i h')
    (cases_Bool (is_in_hand v)))
    (cases_Bool (is_at s Handled v))
  where
    here : (gs : List GivenJob) → v.state ≡ Handled → id_of rows v.serial ≡ Some id → AreGiven st rows lists gs (filter is_in_hand (v ∷ us)) → list_any (is_open_job id) gs ≡ true
    here [] hs k h = let n : is_in_hand v ≡ true = rw hs refl in let h' : AreGiven st rows lists [] (v ∷ filter is_in_hand us) = rw n at h in absurd h'
    here (g ∷ gs) hs k h =
        let n : is_in_hand v ≡ true = rw hs refl in
        let h' : AreGiven st rows lists (g ∷ gs) (v ∷ filter is_in_hand us) = rw n at h in
        let o : is_open_job id g ≡ true = opens st rows lists g v id hs k h'.0 in
        rw o refl

    behind : (gs : List GivenJob) → ((xs : List GivenJob) → AreGiven st rows lists xs (filter is_in_hand us) → list_any (is_open_job id) xs ≡ true) → AreGiven st rows lists gs (v ∷ filter is_in_hand us) →
        list_any (is_open_job id) gs ≡ true
    behind [] again h = absurd h
    behind (g ∷ gs) again h = or_right (is_open_job id g) (list_any (is_open_job id) gs) (again gs h.1)

pub job_open : (user : UserState) (rows : List PendingRow) (d : DeviceState) (lists : List Taken) (s : ℕ) (u : Unfinished) (p : Parked) (parts : List (List ℕ)) →
    CanRespond user rows d lists s u p parts → list_any (is_open_job p.job.id) user.jobs ≡ true
job_open user rows d lists s u p parts h = given_open d.settings rows lists s p.job.id user.jobs d.unfinished u h.found h.job.id h.given

-- ==== it is whole

pub job_whole : (user : UserState) (rows : List PendingRow) (d : DeviceState) (lists : List Taken) (s : ℕ) (u : Unfinished) (p : Parked) (parts : List (List ℕ)) →
    CanRespond user rows d lists s u p parts → UserKeeps user d → IsWholeJob user p.job
job_whole user rows d lists s u p parts h keeps others e =
    let pages : ℕ = d.settings.pages in
    let size : ℕ = block_size pages in
    let start : ℕ = data_start d.settings.ring in
    let bs : List ℕ = list_of lists u.serial in
    let n : ℕ = payload_length u.command in
    let same : parts ≡ others = moved parts others (sym h.job.carried ∙ e) in
    let count : length bs ≡ blocks_of pages u.command = every-first (is_at s Handled) (λ (v : Unfinished). length (list_of lists v.serial) ≡ blocks_of pages v.command) d.unfinished u h.owned.sizes h.found in
    let room : size * length bs ≡ size * ((n + (size - 1)) / size) = ap (λ y. size * y) count in
    let low : 1 ≤ pages = h.sound.settings.pages_low in
    let numbers : numbers_of start size (iovs_along start size bs n) ≡ bs = iovs-numbers start size bs n (omega arith) (omega arith) (omega arith) in
    let named : numbers_of (data_start user.ring) (block_size user.pages) p.job.iovs ≡ bs =
    ap (λ y. numbers_of (data_start y) (block_size user.pages) p.job.iovs) keeps.ring
    ∙ ap (λ y. numbers_of start (block_size y) p.job.iovs) keeps.pages
    ∙ ap (λ y. numbers_of start size y) h.job.iovs
    ∙ numbers in (
      subst (λ y. HaveSize (block_size y) others) (sym keeps.pages) (subst (HaveSize size) same h.job.size),
      ap length (sym same) ∙ h.job.count ∙ ap length (sym named),
    )
  where
    moved : (xs ys : List (List ℕ)) → Moved xs ≡ Moved ys → xs ≡ ys
    moved xs ys q = cc
