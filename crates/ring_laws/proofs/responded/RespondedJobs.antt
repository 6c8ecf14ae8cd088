-- A respond out of order: the jobs that are left, and the answers of both sides.
use Rattle.std.proofs.Common.{◌≡◌, ◌≢◌, ℕ, ◌&&◌, true, false, not, cond, List, [], ◌∷◌, map, filter, refl, sym, ap, ◌∙◌, Some, None, subst, ⊎_elim, eqb}
use Rattle.std.specs.Option.{is_some, option_map}
use Rattle.std.proofs.lemmas.Bool.{cases_Bool, eqb-true, ne_eqb, eq-eqb, true≢false, and_parts}
use Rattle.std.specs.List.{list_any}
use Rattle.tcmu_types.proofs.Readings.{same_some}
use Rattle.tcmu_types.specs.Data.{SettingsData}
use Rattle.tcmu_types.specs.declared.settings.Flags.{Flags}
use Rattle.tcmu_types.specs.declared.answer.Respond.TheVariants as respond
use Rattle.tcmu_model.specs.declared.state.CommandState.TheVariants.{Handled, Parked, Placed}
use Rattle.tcmu_model.specs.declared.state.CommandState.TheVariants as state
use Rattle.tcmu_types.specs.Lists.{first_of, without_first}
use Rattle.tcmu_model.specs.Device.{Unfinished, DeviceState, has_serial, has_state, is_at}
use Rattle.tcmu_model.specs.Events.{after_respond, in_state, is_handled, is_in_hand, placed_by, respond_answer, turned}
use Rattle.tcmu_types.specs.Numbers.{is_among, Differ}
use Rattle.tcmu_model.specs.Events as events
use Rattle.tcmu_model.specs.RingState.{serials_in}
use Rattle.tcmu_model.specs.BlockLists.{Taken}
use Rattle.region_model.specs.Regions.{RegionState}
use Rattle.tcmu_model.proofs.CommandStates.{state_at, serial_at}
use Rattle.region_model.specs.Sides.{GivenJob, InHand, PendingRow, UserState}
use Rattle.region_model.specs.Sides as sides
use Rattle.region_model.specs.Represents.{AreGiven, AreOut, IdsStand, IsGiven, JobsStand, id_of, is_out, row_has}
use Rattle.region_model.specs.UserSteps.{Placing, is_open_job, is_unanswered, placed_at, placed_or_parked, user_respond_answer, user_responded}
use Rattle.region_model.specs.HandSteps.{hand_has, hand_responded}
use Rattle.ring_laws.specs.Placed.{answer_placed, parked_in, placed_in}
use Rattle.ring_laws.specs.Responded.{CanRespond}
use Rattle.ring_laws.proofs.placed.Numbered.{can_answer}
use Rattle.ring_laws.proofs.placed.PlacedAnswers.{Into, goes_into, offsets_placed, placing_of}
use Rattle.ring_laws.proofs.parked.ParkedKept.{can_answer_parked, found_parked}
use Rattle.ring_laws.proofs.responded.RespondedKept.{Responds, responds, can_place, found-state}
use Rattle.ring_laws.proofs.TakenOut.{none_at}
use Rattle.ring_laws.proofs.Matched.{unmatched}
use Rattle.tcmu_types.proofs.Firsts.{any_first}

-- ==== ids name one serial each

pub id_among : (rows : List PendingRow) (q id : ℕ) → id_of rows q ≡ Some id → is_among (map (λ (e : PendingRow). e.id) rows) id ≡ true
id_among [] q id h = absurd (cc)
id_among (e ∷ rows) q id h =
    ⊎_elim
    (λ (k : row_has q e ≡ true).
    let g : option_map (λ (r : PendingRow). r.id) (Some e) ≡ Some id = rw k at h in
    let i : e.id ≡ id = cc in
    let z : eqb e.id id ≡ true = eq-eqb e.id id i in
    rw z refl)
    (λ (k : row_has q e ≡ false).
    let g : id_of rows q ≡ Some id = rw k at h in
    let r : is_among (map (λ (x : PendingRow). x.id) rows) id ≡ true = id_among rows q id g in
    ⊎_elim
    (λ (z : eqb e.id id ≡ true). rw z refl)
    (λ (z : eqb e.id id ≡ false). rw z r)
    (cases_Bool (eqb e.id id)))
    (cases_Bool (row_has q e))

not_twice : (e : PendingRow) (rows : List PendingRow) (q id : ℕ) → is_among (map (λ (x : PendingRow). x.id) rows) e.id ≡ false → e.id ≡ id → id_of rows q ≡ Some id → ⊥
not_twice e rows q id h i g = true≢false (sym (id_among rows q id g) ∙ subst (λ (y : ℕ). is_among (map (λ (x : PendingRow). x.id) rows) y ≡ false) i h)

pub one_serial : (rows : List PendingRow) (a b id : ℕ) → Differ (map (λ (e : PendingRow). e.id) rows) → id_of rows a ≡ Some id → id_of rows b ≡ Some id → a ≡ b
one_serial [] a b id d h g = absurd (cc)
one_serial (e ∷ rows) a b id d h g =
    ⊎_elim
    (λ (k : row_has a e ≡ true).
    let h' : option_map (λ (r : PendingRow). r.id) (Some e) ≡ Some id = rw k at h in
    let i : e.id ≡ id = cc in
    ⊎_elim
    (λ (m : row_has b e ≡ true). sym (eqb-true e.pending.serial a k) ∙ eqb-true e.pending.serial b m)
    (λ (m : row_has b e ≡ false). let g' : id_of rows b ≡ Some id = rw m at g in absurd (not_twice e rows b id d.0 i g'))
    (cases_Bool (row_has b e)))
    (λ (k : row_has a e ≡ false).
    let h' : id_of rows a ≡ Some id = rw k at h in
    ⊎_elim
    (λ (m : row_has b e ≡ true).
    let g' : option_map (λ (r : PendingRow). r.id) (Some e) ≡ Some id = rw m at g in
    let i : e.id ≡ id = cc in
    absurd (not_twice e rows a id d.0 i h'))
    (λ (m : row_has b e ≡ false). let g' : id_of rows b ≡ Some id = rw m at g in one_serial rows a b id d.1 h' g')
    (cases_Bool (row_has b e)))
    (cases_Bool (row_has a e))

-- ==== the jobs

abbrev answered_rows : ℕ → List Unfinished → List Unfinished
answered_rows s us = turned s Parked Placed (turned s Handled Parked us)

pub opens : (s : SettingsData) (rows : List PendingRow) (lists : List Taken) (g : GivenJob) (v : Unfinished) (id : ℕ) → v.state ≡ Handled → id_of rows v.serial ≡ Some id → IsGiven s rows lists g v → is_open_job id g ≡ true
opens s rows lists g v id st i h =
    let n : has_state state.Parked v ≡ false = rw st refl in
    let q : g.parked ≡ None = unmatched (has_state state.Parked v) _ _ n h.1 in
    let e : eqb g.id id ≡ true = eq-eqb g.id id (same_some g.id id (sym h.0 ∙ i)) in
    ap (λ b. b && not (is_some g.parked)) e ∙ ap (λ o. not (is_some o)) q

given_left : (st : SettingsData) (rows : List PendingRow) (lists : List Taken) (s id : ℕ) (gs : List GivenJob) (us : List Unfinished) (w : Unfinished) →
    Differ (map (λ (e : PendingRow). e.id) rows) → id_of rows s ≡ Some id → Differ (map (λ (u : Unfinished). u.serial) us) → first_of (is_at s Handled) us ≡ Some w → AreGiven st rows lists gs (filter is_in_hand us) →
    AreGiven st rows lists (without_first (is_open_job id) gs) (filter is_in_hand (answered_rows s us))
given_left st rows lists s id gs [] w di i d f h = absurd (cc)
given_left st rows lists s id gs (v ∷ us) w di i d f h =
    ⊎_elim
    (λ (e : is_at s Handled v ≡ true).
    let hs : v.state ≡ Handled = state_at s Handled v e in
    let n : is_in_hand v ≡ true = rw hs refl in
    let z : is_at s Parked (in_state Parked v) ≡ true = (let m : has_serial s v ≡ true = (and_parts _ _ e).0 in rw m refl) in
    let h' : AreGiven st rows lists gs (v ∷ filter is_in_hand us) = rw n at h in
    rw (e, z) (here gs hs (serial_at s Handled v e) h'))
    (λ (e : is_at s Handled v ≡ false).
    let g : first_of (is_at s Handled) us ≡ Some w = rw e at f in
    let other : v.serial ≢ s = λ q. none_at s Handled us w (subst (λ (y : ℕ). is_among (map (λ (u : Unfinished). u.serial) us) y ≡ false) q d.0) g in
    let z : is_at s Parked v ≡ false = not_at v other in
    ⊎_elim
    (λ (n : is_in_hand v ≡ true).
    let h' : AreGiven st rows lists gs (v ∷ filter is_in_hand us) = rw n at h in
    rw (e, z, n) (behind gs (λ xs p. given_left st rows lists s id xs us w di i d.1 g p) other h'))
    (λ (n : is_in_hand v ≡ false).
    let h' : AreGiven st rows lists gs (filter is_in_hand us) = rw n at h in
    rw (e, z, n) (given_left st rows lists s id gs us w di i d.1 g h'))
    (cases_Bool (is_in_hand v)))
    (cases_Bool (is_at s Handled v))
  where
    not_at : (v : Unfinished) → v.serial ≢ s → is_at s Parked v ≡ false
    not_at v q = let e : has_serial s v ≡ false = ne_eqb v.serial s q in rw e refl

    here : (gs : List GivenJob) → v.state ≡ Handled → v.serial ≡ s → AreGiven st rows lists gs (v ∷ filter is_in_hand us) → AreGiven st rows lists (without_first (is_open_job id) gs) (filter is_in_hand us)
    here [] hs q h = absurd h
    here (x ∷ gs) hs q h = let o : is_open_job id x ≡ true = opens st rows lists x v id hs (ap (id_of rows) q ∙ i) h.0 in rw o h.1

    behind : (gs : List GivenJob) → ((xs : List GivenJob) → AreGiven st rows lists xs (filter is_in_hand us) → AreGiven st rows lists (without_first (is_open_job id) xs) (filter is_in_hand (answered_rows s us))) → v.serial ≢ s →
        AreGiven st rows lists gs (v ∷ filter is_in_hand us) → AreGiven st rows lists (without_first (is_open_job id) gs) (v ∷ filter is_in_hand (answered_rows s us))
    behind [] again other h = absurd h
    behind (x ∷ gs) again other h =
        let m : eqb x.id id ≡ false = ne_eqb x.id id (λ q. other (one_serial rows v.serial s id di (h.0.0 ∙ ap Some q) i)) in
        let o : is_open_job id x ≡ false = ap (λ b. b && not (is_some x.parked)) m in
        rw o (h.0, again gs h.1)

outs_left : (st : SettingsData) (rows : List PendingRow) (lists : List Taken) (s : ℕ) (hs : List InHand) (us : List Unfinished) (w : Unfinished) →
    Differ (map (λ (u : Unfinished). u.serial) us) → first_of (is_at s Handled) us ≡ Some w → AreOut st rows lists hs (filter is_out us) →
    AreOut st rows lists (without_first (hand_has s) hs) (filter is_out (answered_rows s us))
outs_left st rows lists s hs [] w d f h = absurd (cc)
outs_left st rows lists s hs (v ∷ us) w d f h =
    ⊎_elim
    (λ (e : is_at s Handled v ≡ true).
    let vs : v.state ≡ Handled = state_at s Handled v e in
    let n : is_out v ≡ true = rw vs refl in
    let z : is_at s Parked (in_state Parked v) ≡ true = (let m : has_serial s v ≡ true = (and_parts _ _ e).0 in rw m refl) in
    let h' : AreOut st rows lists hs (v ∷ filter is_out us) = rw n at h in
    rw (e, z) (here hs (serial_at s Handled v e) h'))
    (λ (e : is_at s Handled v ≡ false).
    let g : first_of (is_at s Handled) us ≡ Some w = rw e at f in
    let other : v.serial ≢ s = λ q. none_at s Handled us w (subst (λ (y : ℕ). is_among (map (λ (u : Unfinished). u.serial) us) y ≡ false) q d.0) g in
    let z : is_at s Parked v ≡ false = not_at v other in
    ⊎_elim
    (λ (n : is_out v ≡ true).
    let h' : AreOut st rows lists hs (v ∷ filter is_out us) = rw n at h in
    rw (e, z, n) (behind hs (λ xs p. outs_left st rows lists s xs us w d.1 g p) other h'))
    (λ (n : is_out v ≡ false).
    let h' : AreOut st rows lists hs (filter is_out us) = rw n at h in
    rw (e, z, n) (outs_left st rows lists s hs us w d.1 g h'))
    (cases_Bool (is_out v)))
    (cases_Bool (is_at s Handled v))
  where
    not_at : (v : Unfinished) → v.serial ≢ s → is_at s Parked v ≡ false
    not_at v q = let e : has_serial s v ≡ false = ne_eqb v.serial s q in rw e refl

    here : (hs : List InHand) → v.serial ≡ s → AreOut st rows lists hs (v ∷ filter is_out us) → AreOut st rows lists (without_first (hand_has s) hs) (filter is_out us)
    here [] q h = absurd h
    here (x ∷ hs) q h = let o : hand_has s x ≡ true = eq-eqb x.serial s (h.0.0 ∙ q) in rw o h.1

    behind : (hs : List InHand) → ((xs : List InHand) → AreOut st rows lists xs (filter is_out us) → AreOut st rows lists (without_first (hand_has s) xs) (filter is_out (answered_rows s us))) → v.serial ≢ s →
        AreOut st rows lists hs (v ∷ filter is_out us) → AreOut st rows lists (without_first (hand_has s) hs) (v ∷ filter is_out (answered_rows s us))
    behind [] again other h = absurd h
    behind (x ∷ hs) again other h = let o : hand_has s x ≡ false = ne_eqb x.serial s (λ q. other (sym h.0.0 ∙ q)) in rw o (h.0, again hs h.1)

pub jobs_responded : (r : RegionState) (user : UserState) (hand : List InHand) (rows : List PendingRow) (d : DeviceState) (lists : List Taken) (s : ℕ) (u : Unfinished) (p : sides.Parked) (parts : List (List ℕ)) →
    CanRespond user rows d lists s u p parts → d.settings.flags.ooo ≡ true → IdsStand r.front rows d → JobsStand user hand rows d lists → JobsStand (user_responded r user p).user (hand_responded hand s) rows (after_respond d s) lists
unfolding hand_responded
jobs_responded r user hand rows d lists s u p parts h o ids jobs =
    let e : Responds r user d s p = responds r user rows d lists s u p parts h o in
    let rest : List GivenJob = without_first (is_open_job p.job.id) user.jobs in
    let differ = (can_answer d h.sound).differ in
    let q : u.serial ≡ s = serial_at s Handled u (found-state s Handled d.unfinished u h.found) in
    let i : id_of rows s ≡ Some p.job.id = ap (id_of rows) (sym q) ∙ h.job.id in
    let into : Into user (parked_in d s) = goes_into user rows (parked_in d s) lists s (in_state Parked u) p parts (can_answer_parked d s h.sound) (can_place user rows d lists s u p parts h) in
    let jobs' : (answer_placed r user p rest).user.jobs ≡ rest = ap (λ ats. (placed_at (placing_of r user) p rest ats).user.jobs) into.first in
    let k : JobsStand (answer_placed r user p rest).user (without_first (hand_has s) hand) rows (placed_in (parked_in d s) s) lists = record {
      given = subst (λ (xs : List GivenJob). AreGiven d.settings rows lists xs (filter is_in_hand (answered_rows s d.unfinished))) (sym jobs') (given_left d.settings rows lists s p.job.id user.jobs d.unfinished u ids.differ i differ h.found jobs.given);
      out = outs_left d.settings rows lists s hand d.unfinished u differ h.found jobs.out;
      offsets = offsets_placed r user rows (parked_in d s) lists s (in_state Parked u) p parts rest (can_answer_parked d s h.sound) (can_place user rows d lists s u p parts h);
    } in
    subst (λ (z : DeviceState). JobsStand (user_responded r user p).user (without_first (hand_has s) hand) rows z lists) (sym e.device)
    (subst (λ (z : Placing). JobsStand z.user (without_first (hand_has s) hand) rows (placed_in (parked_in d s) s) lists) (sym e.side) k)

-- ==== both sides answer the same

any-placed : (s : ℕ) (us : List Unfinished) (u : Unfinished) → first_of (is_at s Parked) us ≡ Some u → list_any (is_at s Placed) (turned s Parked Placed us) ≡ true
any-placed s [] u f = absurd (cc)
any-placed s (v ∷ us) u f =
    ⊎_elim
    (λ (k : is_at s Parked v ≡ true).
    let m : has_serial s v ≡ true = (and_parts _ _ k).0 in
    let z : is_at s Placed (in_state Placed v) ≡ true = rw m refl in
    rw (k, z) refl)
    (λ (k : is_at s Parked v ≡ false).
    let g : first_of (is_at s Parked) us ≡ Some u = rw k at f in
    let r : list_any (is_at s Placed) (turned s Parked Placed us) ≡ true = any-placed s us u g in
    ⊎_elim
    (λ (z : is_at s Placed v ≡ true). rw (k, z) refl)
    (λ (z : is_at s Placed v ≡ false). rw (k, z) r)
    (cases_Bool (is_at s Placed v)))
    (cases_Bool (is_at s Parked v))

pub answer_responded : (user : UserState) (rows : List PendingRow) (d : DeviceState) (lists : List Taken) (s : ℕ) (u : Unfinished) (p : sides.Parked) (parts : List (List ℕ)) →
    CanRespond user rows d lists s u p parts → d.settings.flags.ooo ≡ true → user_respond_answer user p.job.id ≡ respond_answer d s
unfolding user_respond_answer respond_answer
answer_responded user rows d lists s u p parts h o =
    let start : events.Placing = record { placed = d.placed; unfinished = events.with_parked d s } in
    let handled : is_handled d s ≡ true = any_first (is_at s Handled) d.unfinished u h.found in
    let there : list_any (is_at s Placed) (turned s Parked Placed (parked_in d s).unfinished) ≡ true = any-placed s (parked_in d s).unfinished (in_state Parked u) (found_parked d s u h.sound h.found) in
    let mine : cond user.flags.ooo respond.Placed (placed_or_parked p.job.id (first_of is_unanswered user.jobs)) ≡ respond.Placed =
    ap (λ b. cond b respond.Placed (placed_or_parked p.job.id (first_of is_unanswered user.jobs))) (ap (λ (f : Flags). f.ooo) h.flags ∙ o) in
    let its : cond (is_handled d s) (cond (list_any (is_at s Placed) (events.placing d s).unfinished) respond.Placed respond.Parked) (respond.NotHandled s) ≡ respond.Placed =
    ap (λ b. cond b (cond (list_any (is_at s Placed) (events.placing d s).unfinished) respond.Placed respond.Parked) (respond.NotHandled s)) handled
    ∙ ap (λ b. cond (list_any (is_at s Placed) (placed_by b start s (serials_in d.ring.laid)).unfinished) respond.Placed respond.Parked) o
    ∙ ap (λ b. cond b respond.Placed respond.Parked) there in
    mine ∙ sym its
