-- A handler answers: the jobs.
use Rattle.std.proofs.Common.{◌≡◌, ◌≢◌, ℕ, true, false, cond, List, [], ◌∷◌, map, filter, refl, sym, ap, ◌∙◌, Option, Some, None, subst, ⊎_elim}
use Rattle.std.proofs.lemmas.Bool.{cases_Bool, ne_eqb, eq-eqb}
use Rattle.tcmu_types.specs.Data.{ReplyData, SettingsData}
use Rattle.tcmu_types.specs.Rules.{takes_payload}
use Rattle.tcmu_model.specs.declared.state.CommandState.TheVariants.{Out, Handled}
use Rattle.tcmu_model.specs.declared.state.CommandState.TheVariants as state
use Rattle.tcmu_types.specs.Lists.{first_of, with_first}
use Rattle.tcmu_model.specs.Device.{Unfinished, DeviceState, has_state, is_at}
use Rattle.tcmu_model.specs.Events.{after_handle, with_reply, command_out, is_in_hand}
use Rattle.tcmu_types.specs.Numbers.{is_among, Differ}
use Rattle.tcmu_model.specs.Sound.{IsSound}
use Rattle.tcmu_model.specs.BlockLists.{Taken}
use Rattle.tcmu_types.specs.Overwriting.{zeros}
use Rattle.tcmu_model.proofs.CommandStates.{state_at, serial_at}
use Rattle.region_model.specs.Picture.{data_in, payload_of}
use Rattle.region_model.specs.Sides.{GivenJob, InHand, JobState, PendingRow, UserState}
use Rattle.region_model.specs.Represents.{AreGiven, AreOut, IsGiven, IsJobOf, JobsStand, is_out}
use Rattle.region_model.specs.HandSteps.{hand_has, hand_answered, with_answer}
use Rattle.ring_laws.proofs.placed.Numbered.{can_answer}
use Rattle.ring_laws.proofs.TakenOut.{none_at}
use Rattle.ring_laws.proofs.Matched.{unmatched}

-- no data is in before the answer is placed
pub none_in : (n : ℕ) (u : Unfinished) → u.state ≡ Out → data_in n u.state u.reply ≡ zeros n
none_in n u st = ap (λ t. data_in n t u.reply) st ∙ by_reply u.reply
  where
    by_reply : (o : Option ReplyData) → data_in n Out o ≡ zeros n
    by_reply None = refl
    by_reply (Some reply) = refl

payload_same : (u : Unfinished) (reply : ReplyData) → u.state ≡ Out → payload_of u ≡ payload_of (with_reply reply u)
payload_same u reply st = ap (λ xs. cond (takes_payload u.command.cdb) u.command.sent xs) (none_in u.command.in_len u st)

job_handled : (s : SettingsData) (rows : List PendingRow) (lists : List Taken) (u : Unfinished) (reply : ReplyData) (job : JobState) (parts : List (List ℕ)) → u.state ≡ Out → IsJobOf s rows lists u job parts → IsJobOf s rows lists (with_reply reply u) job parts
job_handled s rows lists u reply job parts st h =
    record { id = h.id; cdb = h.cdb; iovs = h.iovs; in_len = h.in_len; carried = h.carried; count = h.count; size = h.size; payload = h.payload ∙ payload_same u reply st }

given_one : (s : SettingsData) (rows : List PendingRow) (lists : List Taken) (g : GivenJob) (u : Unfinished) (reply : ReplyData) → u.state ≡ Out → IsGiven s rows lists g u → IsGiven s rows lists g (with_reply reply u)
given_one s rows lists g u reply st h = (h.0, unmatched (has_state state.Parked u) _ _ (rw st refl) h.1)

given_handled : (s : SettingsData) (rows : List PendingRow) (lists : List Taken) (k : ℕ) (reply : ReplyData) (gs : List GivenJob) (us : List Unfinished) →
    AreGiven s rows lists gs (filter is_in_hand us) → AreGiven s rows lists gs (filter is_in_hand (with_first (is_at k Out) (with_reply reply) us))
given_handled s rows lists k reply gs [] h = h
given_handled s rows lists k reply gs (u ∷ us) h =
    ⊎_elim
    (λ (e : is_at k Out u ≡ true).
    let st : u.state ≡ Out = state_at k Out u e in
    let n : is_in_hand u ≡ true = rw st refl in
    let h' : AreGiven s rows lists gs (u ∷ filter is_in_hand us) = rw n at h in
    rw e (here gs st h'))
    (λ (e : is_at k Out u ≡ false).
    ⊎_elim
    (λ (n : is_in_hand u ≡ true).
    let h' : AreGiven s rows lists gs (u ∷ filter is_in_hand us) = rw n at h in
    rw (e, n) (behind gs (λ xs p. given_handled s rows lists k reply xs us p) h'))
    (λ (n : is_in_hand u ≡ false).
    let h' : AreGiven s rows lists gs (filter is_in_hand us) = rw n at h in
    rw (e, n) (given_handled s rows lists k reply gs us h'))
    (cases_Bool (is_in_hand u)))
    (cases_Bool (is_at k Out u))
  where
    here : (gs : List GivenJob) → u.state ≡ Out → AreGiven s rows lists gs (u ∷ filter is_in_hand us) → AreGiven s rows lists gs (with_reply reply u ∷ filter is_in_hand us)
    here [] st h = h
    here (g ∷ gs) st h = (given_one s rows lists g u reply st h.0, h.1)

    behind : (gs : List GivenJob) → ((xs : List GivenJob) → AreGiven s rows lists xs (filter is_in_hand us) → AreGiven s rows lists xs (filter is_in_hand (with_first (is_at k Out) (with_reply reply) us))) → AreGiven s rows lists gs (u ∷ filter is_in_hand us) → AreGiven s rows lists gs (u ∷ filter is_in_hand (with_first (is_at k Out) (with_reply reply) us))
    behind [] again h = h
    behind (g ∷ gs) again h = (h.0, again gs h.1)

outs_handled : (s : SettingsData) (rows : List PendingRow) (lists : List Taken) (k : ℕ) (reply : ReplyData) (hs : List InHand) (us : List Unfinished) (v : Unfinished) →
    Differ (map (λ (u : Unfinished). u.serial) us) → first_of (is_at k Out) us ≡ Some v → AreOut s rows lists hs (filter is_out us) →
    AreOut s rows lists (with_first (hand_has k) (with_answer reply) hs) (filter is_out (with_first (is_at k Out) (with_reply reply) us))
outs_handled s rows lists k reply hs [] v d f h = absurd (cc)
outs_handled s rows lists k reply hs (u ∷ us) v d f h =
    ⊎_elim
    (λ (e : is_at k Out u ≡ true).
    let st : u.state ≡ Out = state_at k Out u e in
    let n : is_out u ≡ true = rw st refl in
    let h' : AreOut s rows lists hs (u ∷ filter is_out us) = rw n at h in
    rw e (here hs st (serial_at k Out u e) h'))
    (λ (e : is_at k Out u ≡ false).
    let g : first_of (is_at k Out) us ≡ Some v = rw e at f in
    ⊎_elim
    (λ (n : is_out u ≡ true).
    let h' : AreOut s rows lists hs (u ∷ filter is_out us) = rw n at h in
    let other : u.serial ≢ k = λ q. none_at k Out us v (subst (λ (y : ℕ). is_among (map (λ (w : Unfinished). w.serial) us) y ≡ false) q d.0) g in
    rw (e, n) (behind hs (λ xs p. outs_handled s rows lists k reply xs us v d.1 g p) other h'))
    (λ (n : is_out u ≡ false).
    let h' : AreOut s rows lists hs (filter is_out us) = rw n at h in
    rw (e, n) (outs_handled s rows lists k reply hs us v d.1 g h'))
    (cases_Bool (is_out u)))
    (cases_Bool (is_at k Out u))
  where
    here : (hs : List InHand) → u.state ≡ Out → u.serial ≡ k → AreOut s rows lists hs (u ∷ filter is_out us) → AreOut s rows lists (with_first (hand_has k) (with_answer reply) hs) (with_reply reply u ∷ filter is_out us)
    here [] st q h = h
    here (x ∷ hs) st q h =
        let m : hand_has k x ≡ true = eq-eqb x.serial k (h.0.0 ∙ q) in
        rw m ((h.0.0, refl, (h.0.2.0, job_handled s rows lists u reply x.job h.0.2.0 st h.0.2.1)), h.1)

    behind : (hs : List InHand) → ((xs : List InHand) → AreOut s rows lists xs (filter is_out us) → AreOut s rows lists (with_first (hand_has k) (with_answer reply) xs) (filter is_out (with_first (is_at k Out) (with_reply reply) us))) → u.serial ≢ k → AreOut s rows lists hs (u ∷ filter is_out us) →
        AreOut s rows lists (with_first (hand_has k) (with_answer reply) hs) (u ∷ filter is_out (with_first (is_at k Out) (with_reply reply) us))
    behind [] again other h = h
    behind (x ∷ hs) again other h =
        let m : hand_has k x ≡ false = ne_eqb x.serial k (λ q. other (sym h.0.0 ∙ q)) in
        rw m (h.0, again hs h.1)

pub jobs_handled : (user : UserState) (hand : List InHand) (rows : List PendingRow) (d : DeviceState) (lists : List Taken) (s : ℕ) (u : Unfinished) (reply : ReplyData) → IsSound d → command_out d s ≡ Some u →
    JobsStand user hand rows d lists → JobsStand user (hand_answered hand s reply) rows (after_handle d s reply) lists
unfolding after_handle hand_answered
jobs_handled user hand rows d lists s u reply sound f h =
    record {
      given = given_handled d.settings rows lists s reply user.jobs d.unfinished h.given;
      out = outs_handled d.settings rows lists s reply hand d.unfinished u (can_answer d sound).differ f h.out;
      offsets = h.offsets;
    }
