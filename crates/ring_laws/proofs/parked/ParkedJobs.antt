-- A handled command is parked: the user side has its job with its reply, and it is out of hand.
use Rattle.std.proofs.Common.{◌≡◌, ◌≢◌, ℕ, ◌&&◌, true, false, not, List, [], ◌∷◌, map, filter, refl, sym, ap, ◌∙◌, Some, subst, ⊎_elim, eqb}
use Rattle.std.specs.Option.{is_some}
use Rattle.std.proofs.lemmas.Bool.{cases_Bool, ne_eqb, eq-eqb}
use Rattle.tcmu_types.specs.Data.{SettingsData}
use Rattle.tcmu_model.specs.declared.state.CommandState.TheVariants.{Handled, Parked}
use Rattle.tcmu_types.specs.Lists.{first_of, with_first, without_first}
use Rattle.tcmu_model.specs.Device.{Unfinished, DeviceState, is_at}
use Rattle.tcmu_model.specs.Events.{in_state, is_in_hand, turned}
use Rattle.tcmu_types.specs.Numbers.{is_among, Differ}
use Rattle.tcmu_model.specs.BlockLists.{Taken}
use Rattle.tcmu_model.proofs.CommandStates.{state_at, serial_at}
use Rattle.region_model.specs.Sides.{GivenJob, InHand, PendingRow, UserState}
use Rattle.region_model.specs.Sides as sides
use Rattle.region_model.specs.Represents.{AreGiven, AreOut, IdsStand, JobsStand, id_of, is_out, IsJobOf}
use Rattle.region_model.specs.UserSteps.{is_open_job, with_jobs, with_parked}
use Rattle.region_model.specs.HandSteps.{hand_has, hand_responded}
use Rattle.ring_laws.specs.Placed.{parked_in}
use Rattle.ring_laws.proofs.placed.Numbered.{can_answer}
use Rattle.ring_laws.proofs.responded.RespondedKept.{found-state, job_parked}
use Rattle.ring_laws.proofs.TakenOut.{none_at}
use Rattle.ring_laws.proofs.responded.RespondedJobs.{one_serial, opens}
use Rattle.tcmu_model.specs.Sound.{IsSound}

-- ==== the jobs

pub given_parked : (st : SettingsData) (rows : List PendingRow) (lists : List Taken) (s id : ℕ) (gs : List GivenJob) (us : List Unfinished) (w : Unfinished) (p : sides.Parked) (parts : List (List ℕ)) → w.reply ≡ Some p.reply → IsJobOf st rows lists w p.job parts →
    Differ (map (λ (e : PendingRow). e.id) rows) → id_of rows s ≡ Some id → Differ (map (λ (u : Unfinished). u.serial) us) → first_of (is_at s Handled) us ≡ Some w → AreGiven st rows lists gs (filter is_in_hand us) →
    AreGiven st rows lists (with_first (is_open_job id) (with_parked p) gs) (filter is_in_hand (turned s Handled Parked us))
given_parked st rows lists s id gs [] w p parts rp jb di i d f h = absurd (cc)
given_parked st rows lists s id gs (v ∷ us) w p parts rp jb di i d f h =
    ⊎_elim
    (λ (e : is_at s Handled v ≡ true).
    let hs : v.state ≡ Handled = state_at s Handled v e in
    let n : is_in_hand v ≡ true = rw hs refl in
    let f' : Some v ≡ Some w = rw e at f in
    let vw : v ≡ w = cc in
    let h' : AreGiven st rows lists gs (v ∷ filter is_in_hand us) = rw n at h in
    rw e (here gs hs (serial_at s Handled v e) (ap (λ (y : Unfinished). y.reply) vw ∙ rp) (subst (λ (y : Unfinished). IsJobOf st rows lists y p.job parts) (sym vw) jb) h'))
    (λ (e : is_at s Handled v ≡ false).
    let g : first_of (is_at s Handled) us ≡ Some w = rw e at f in
    let other : v.serial ≢ s = λ q. none_at s Handled us w (subst (λ (y : ℕ). is_among (map (λ (u : Unfinished). u.serial) us) y ≡ false) q d.0) g in
    ⊎_elim
    (λ (n : is_in_hand v ≡ true).
    let h' : AreGiven st rows lists gs (v ∷ filter is_in_hand us) = rw n at h in
    rw (e, n) (behind gs (λ xs y. given_parked st rows lists s id xs us w p parts rp jb di i d.1 g y) other h'))
    (λ (n : is_in_hand v ≡ false).
    let h' : AreGiven st rows lists gs (filter is_in_hand us) = rw n at h in
    rw (e, n) (given_parked st rows lists s id gs us w p parts rp jb di i d.1 g h'))
    (cases_Bool (is_in_hand v)))
    (cases_Bool (is_at s Handled v))
  where
    here : (gs : List GivenJob) → v.state ≡ Handled → v.serial ≡ s → v.reply ≡ Some p.reply → IsJobOf st rows lists v p.job parts → AreGiven st rows lists gs (v ∷ filter is_in_hand us) → AreGiven st rows lists (with_first (is_open_job id) (with_parked p) gs) (in_state Parked v ∷ filter is_in_hand us)
    here [] hs q r j h = absurd h
    here (x ∷ gs) hs q r j h = let o : is_open_job id x ≡ true = opens st rows lists x v id hs (ap (id_of rows) q ∙ i) h.0 in rw o ((h.0.0, (p, refl, r, parts, job_parked st rows lists v p.job parts hs j)), h.1)

    behind : (gs : List GivenJob) → ((xs : List GivenJob) → AreGiven st rows lists xs (filter is_in_hand us) → AreGiven st rows lists (with_first (is_open_job id) (with_parked p) xs) (filter is_in_hand (turned s Handled Parked us))) → v.serial ≢ s →
        AreGiven st rows lists gs (v ∷ filter is_in_hand us) → AreGiven st rows lists (with_first (is_open_job id) (with_parked p) gs) (v ∷ filter is_in_hand (turned s Handled Parked us))
    behind [] again other h = absurd h
    behind (x ∷ gs) again other h =
        let m : eqb x.id id ≡ false = ne_eqb x.id id (λ q. other (one_serial rows v.serial s id di (h.0.0 ∙ ap Some q) i)) in
        let o : is_open_job id x ≡ false = ap (λ b. b && not (is_some x.parked)) m in
        rw o (h.0, again gs h.1)

outs_parked : (st : SettingsData) (rows : List PendingRow) (lists : List Taken) (s : ℕ) (hs : List InHand) (us : List Unfinished) (w : Unfinished) →
    Differ (map (λ (u : Unfinished). u.serial) us) → first_of (is_at s Handled) us ≡ Some w → AreOut st rows lists hs (filter is_out us) →
    AreOut st rows lists (without_first (hand_has s) hs) (filter is_out (turned s Handled Parked us))
outs_parked st rows lists s hs [] w d f h = absurd (cc)
outs_parked st rows lists s hs (v ∷ us) w d f h =
    ⊎_elim
    (λ (e : is_at s Handled v ≡ true).
    let vs : v.state ≡ Handled = state_at s Handled v e in
    let n : is_out v ≡ true = rw vs refl in
    let h' : AreOut st rows lists hs (v ∷ filter is_out us) = rw n at h in
    rw e (here hs (serial_at s Handled v e) h'))
    (λ (e : is_at s Handled v ≡ false).
    let g : first_of (is_at s Handled) us ≡ Some w = rw e at f in
    let other : v.serial ≢ s = λ q. none_at s Handled us w (subst (λ (y : ℕ). is_among (map (λ (u : Unfinished). u.serial) us) y ≡ false) q d.0) g in
    ⊎_elim
    (λ (n : is_out v ≡ true).
    let h' : AreOut st rows lists hs (v ∷ filter is_out us) = rw n at h in
    rw (e, n) (behind hs (λ xs p. outs_parked st rows lists s xs us w d.1 g p) other h'))
    (λ (n : is_out v ≡ false).
    let h' : AreOut st rows lists hs (filter is_out us) = rw n at h in
    rw (e, n) (outs_parked st rows lists s hs us w d.1 g h'))
    (cases_Bool (is_out v)))
    (cases_Bool (is_at s Handled v))
  where
    here : (hs : List InHand) → v.serial ≡ s → AreOut st rows lists hs (v ∷ filter is_out us) → AreOut st rows lists (without_first (hand_has s) hs) (filter is_out us)
    here [] q h = absurd h
    here (x ∷ hs) q h = let o : hand_has s x ≡ true = eq-eqb x.serial s (h.0.0 ∙ q) in rw o h.1

    behind : (hs : List InHand) → ((xs : List InHand) → AreOut st rows lists xs (filter is_out us) → AreOut st rows lists (without_first (hand_has s) xs) (filter is_out (turned s Handled Parked us))) → v.serial ≢ s →
        AreOut st rows lists hs (v ∷ filter is_out us) → AreOut st rows lists (without_first (hand_has s) hs) (v ∷ filter is_out (turned s Handled Parked us))
    behind [] again other h = absurd h
    behind (x ∷ hs) again other h = let o : hand_has s x ≡ false = ne_eqb x.serial s (λ q. other (sym h.0.0 ∙ q)) in rw o (h.0, again hs h.1)

pub jobs_parked : (front : List ℕ) (user : UserState) (hand : List InHand) (rows : List PendingRow) (d : DeviceState) (lists : List Taken) (s : ℕ) (u : Unfinished) (p : sides.Parked) (parts : List (List ℕ)) →
    IsSound d → first_of (is_at s Handled) d.unfinished ≡ Some u → u.reply ≡ Some p.reply → IsJobOf d.settings rows lists u p.job parts → IdsStand front rows d → JobsStand user hand rows d lists →
    JobsStand (with_jobs user (with_first (is_open_job p.job.id) (with_parked p) user.jobs)) (hand_responded hand s) rows (parked_in d s) lists
unfolding hand_responded
jobs_parked front user hand rows d lists s u p parts sound f r j ids jobs =
    let differ = (can_answer d sound).differ in
    let q : u.serial ≡ s = serial_at s Handled u (found-state s Handled d.unfinished u f) in
    let i : id_of rows s ≡ Some p.job.id = ap (id_of rows) (sym q) ∙ j.id in
    record {
      given = given_parked d.settings rows lists s p.job.id user.jobs d.unfinished u p parts r j ids.differ i differ f jobs.given;
      out = outs_parked d.settings rows lists s hand d.unfinished u differ f jobs.out;
      offsets = jobs.offsets;
    }
