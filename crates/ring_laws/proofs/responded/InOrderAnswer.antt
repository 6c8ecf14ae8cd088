-- What a respond in order answers: both sides say whether the turn of the command has come.
use Rattle.std.proofs.Common.{◌≡◌, ◌≢◌, ℕ, ◌||◌, ◌&&◌, Bool, true, false, not, cond, List, [], ◌∷◌, map, filter, refl, sym, ap, ◌∙◌, Some, None, subst, arith, ⊎_elim, eqb}
use Rattle.std.specs.List.{list_any}
use Rattle.std.specs.Option.{is_some}
use Rattle.std.proofs.Math.Bool.{or-false, or_assoc}
use Rattle.std.proofs.lemmas.Bool.{cases_Bool, eq-eqb, false≢true, ne_eqb}
use Rattle.tcmu_types.specs.Data.{SettingsData}
use Rattle.tcmu_types.specs.declared.settings.Flags.{Flags}
use Rattle.tcmu_types.specs.declared.answer.Respond.TheVariants as respond
use Rattle.tcmu_model.specs.declared.state.CommandState.TheVariants.{Handled, Parked, Placed}
use Rattle.tcmu_model.specs.States.{same_state}
use Rattle.tcmu_types.specs.Lists.{first_of}
use Rattle.tcmu_model.specs.RingState.{serials_in}
use Rattle.tcmu_model.specs.Device.{Unfinished, DeviceState, has_serial, has_state, is_at}
use Rattle.tcmu_model.specs.Events.{in_state, is_handled, is_in_hand, placed_by, respond_answer, turned}
use Rattle.tcmu_types.specs.Numbers.{is_among, Differ, Rise}
use Rattle.tcmu_model.specs.Events as events
use Rattle.tcmu_model.specs.BlockLists.{Taken}
use Rattle.tcmu_model.proofs.CommandStates.{serial_at, state_at, state_is}
use Rattle.tcmu_types.proofs.Everies.{every-none, every-weaker, none-every}
use Rattle.tcmu_types.proofs.Rises.{not_above}
use Rattle.region_model.specs.Sides.{GivenJob, PendingRow, UserState}
use Rattle.region_model.specs.Sides as sides
use Rattle.region_model.specs.Represents.{AreGiven, IsJobOf, id_of}
use Rattle.region_model.specs.UserSteps.{is_unanswered, placed_or_parked, user_respond_answer}
use Rattle.ring_laws.specs.Placed.{parked_in, placed_in}
use Rattle.ring_laws.specs.Responded.{CanRespond}
use Rattle.ring_laws.proofs.responded.InOrderKept.{Begun, begins}
use Rattle.ring_laws.proofs.placed.Numbered.{can_answer}
use Rattle.ring_laws.proofs.responded.OrderedRows.{HandFirst, InOrder, not_handled, rise_back}
use Rattle.ring_laws.proofs.responded.PlacedRun.{first-past, found_next, goes, in_hand_behind, none-with, order_placed, ran, ran_laid, stops}
use Rattle.ring_laws.proofs.responded.RespondedJobs.{one_serial}
use Rattle.tcmu_types.proofs.Readings.{same_some}
use Rattle.ring_laws.proofs.responded.RespondedKept.{found-state}
use Rattle.ring_laws.proofs.TakenOut.{none_at}
use Rattle.ring_laws.proofs.Matched.{matched, unmatched}
use Rattle.tcmu_types.proofs.Firsts.{any_first}

-- ==== how far a run comes

-- a run along these commands comes to the serial: all before it are parked, and so is its own
abbrev reaches : ℕ → List Unfinished → Bool
reaches s [] = false
reaches s (u ∷ us) = has_state Parked u && (has_serial s u || reaches s us)

any-turned : (s q : ℕ) (us : List Unfinished) (w : Unfinished) → first_of (is_at q Parked) us ≡ Some w → list_any (is_at s Placed) (turned q Parked Placed us) ≡ (list_any (is_at s Placed) us || has_serial s w)
any-turned s q [] w f = absurd (cc)
any-turned s q (v ∷ us) w f =
    ⊎_elim
    (λ (k : is_at q Parked v ≡ true).
    let f' : Some v ≡ Some w = rw k at f in
    let e : v ≡ w = cc in
    let st : v.state ≡ Parked = state_at q Parked v k in
    let old : is_at s Placed v ≡ false = ap (λ t. has_serial s v && same_state t Placed) st ∙ none (has_serial s v) in
    rw k (here (has_serial s v) (list_any (is_at s Placed) us) ∙ ap (λ b. (b || list_any (is_at s Placed) us) || has_serial s v) (sym old) ∙ ap (λ (y : Unfinished). (is_at s Placed v || list_any (is_at s Placed) us) || has_serial s y) e))
    (λ (k : is_at q Parked v ≡ false).
    let g : first_of (is_at q Parked) us ≡ Some w = rw k at f in
    rw k (ap (λ b. is_at s Placed v || b) (any-turned s q us w g) ∙ sym (or_assoc (is_at s Placed v) (list_any (is_at s Placed) us) (has_serial s w))))
    (cases_Bool (is_at q Parked v))
  where
    none : (b : Bool) → (b && false) ≡ false
    none true = refl
    none false = refl

    here : (a b : Bool) → ((a && true) || b) ≡ ((false || b) || a)
    here true true = refl
    here true false = refl
    here false true = refl
    here false false = refl

run_reaches : (s : ℕ) (d : DeviceState) (more : List Unfinished) → InOrder d more → list_any (is_at s Placed) (ran d (map (λ u. u.serial) more)).unfinished ≡ (list_any (is_at s Placed) d.unfinished || reaches s more)
run_reaches s d [] h = sym (or-false (list_any (is_at s Placed) d.unfinished))
run_reaches s d (u ∷ us) h =
    ⊎_elim
    (λ (k : has_state Parked u ≡ true).
    let st : u.state ≡ Parked = state_is u.state Parked k in
    ap (λ (z : DeviceState). list_any (is_at s Placed) z.unfinished) (goes d u us h st)
    ∙ run_reaches s (placed_in d u.serial) us (order_placed d u us h st)
    ∙ ap (λ b. b || reaches s us) (any-turned s u.serial d.unfinished u (found_next d u us h st))
    ∙ or_assoc (list_any (is_at s Placed) d.unfinished) (has_serial s u) (reaches s us)
    ∙ ap (λ b. list_any (is_at s Placed) d.unfinished || (b && (has_serial s u || reaches s us))) (sym k))
    (λ (k : has_state Parked u ≡ false).
    ap (λ (z : DeviceState). list_any (is_at s Placed) z.unfinished) (stops d u us h k)
    ∙ sym (or-false (list_any (is_at s Placed) d.unfinished))
    ∙ ap (λ b. list_any (is_at s Placed) d.unfinished || (b && (has_serial s u || reaches s us))) (sym k))
    (cases_Bool (has_state Parked u))

-- a command that is parked now has not been placed
none-placed : (s : ℕ) (us : List Unfinished) (w : Unfinished) → Differ (map (λ (u : Unfinished). u.serial) us) → first_of (is_at s Handled) us ≡ Some w → list_any (is_at s Placed) (turned s Handled Parked us) ≡ false
none-placed s [] w d f = absurd (cc)
none-placed s (v ∷ us) w d f =
    ⊎_elim
    (λ (k : is_at s Handled v ≡ true).
    let q : v.serial ≡ s = serial_at s Handled v k in
    let n : list_any (is_at s Placed) us ≡ false = none-with s Placed us (subst (λ (y : ℕ). is_among (map (λ (u : Unfinished). u.serial) us) y ≡ false) q d.0) in
    rw (k, n) (none (has_serial s v)))
    (λ (k : is_at s Handled v ≡ false).
    let g : first_of (is_at s Handled) us ≡ Some w = rw k at f in
    let other : v.serial ≢ s = λ q. none_at s Handled us w (subst (λ (y : ℕ). is_among (map (λ (u : Unfinished). u.serial) us) y ≡ false) q d.0) g in
    let z : has_serial s v ≡ false = ne_eqb v.serial s other in
    let m : is_at s Placed v ≡ false = ap (λ b. b && same_state v.state Placed) z in
    rw (k, m) (none-placed s us w d.1 g))
    (cases_Bool (is_at s Handled v))
  where
    none : (b : Bool) → ((b && false) || false) ≡ false
    none true = refl
    none false = refl

-- ==== the first job without its reply

-- a handled command is not behind one that is not in hand
none_behind : (s : ℕ) (v : Unfinished) (us : List Unfinished) (w : Unfinished) → HandFirst (v ∷ us) → is_in_hand v ≡ false → first_of (is_at s Handled) (v ∷ us) ≡ Some w → ⊥
none_behind s v us w hf n f =
    let k : is_at s Handled v ≡ false = not_handled s v n in
    let g : first_of (is_at s Handled) us ≡ Some w = rw k at f in
    let none : list_any (is_at s Handled) us ≡ false =
    every-none (is_at s Handled) us (every-weaker (λ u. is_in_hand u ≡ false) (λ u. is_at s Handled u ≡ false) us (λ u m. not_handled s u m) (none-every is_in_hand us (hf.0 n))) in
    false≢true (sym none ∙ any_first (is_at s Handled) us w g)

-- it is this command's just where all before it have theirs
first_answers : (st : SettingsData) (rows : List PendingRow) (lists : List Taken) (s id : ℕ) (gs : List GivenJob) (low : ℕ) (us : List Unfinished) (high : ℕ) (w : Unfinished) →
    Differ (map (λ (e : PendingRow). e.id) rows) → id_of rows s ≡ Some id → Rise low (map (λ u. u.serial) us) high → HandFirst us → first_of (is_at s Handled) us ≡ Some w → AreGiven st rows lists gs (filter is_in_hand us) →
    placed_or_parked id (first_of is_unanswered gs) ≡ cond (reaches s (turned s Handled Parked us)) respond.Placed respond.Parked
first_answers st rows lists s id gs low [] high w di i r hf f h = absurd (cc)
first_answers st rows lists s id [] low (v ∷ us) high w di i r hf f h =
    ⊎_elim
    (λ (n : is_in_hand v ≡ true). let h' : AreGiven st rows lists [] (v ∷ filter is_in_hand us) = rw n at h in absurd h')
    (λ (n : is_in_hand v ≡ false). absurd (none_behind s v us w hf n f))
    (cases_Bool (is_in_hand v))
first_answers st rows lists s id (g ∷ gs) low (v ∷ us) high w di i r hf f h =
    ⊎_elim
    (λ (n : is_in_hand v ≡ true).
    let h' : AreGiven st rows lists (g ∷ gs) (v ∷ filter is_in_hand us) = rw n at h in
    ⊎_elim
    (λ (k : is_at s Handled v ≡ true). mine k h'.0.0 (unmatched (has_state Parked v) ((p : sides.Parked) × (g.parked ≡ Some p) × (v.reply ≡ Some p.reply) × (parts : List (List ℕ)) × IsJobOf st rows lists v p.job parts) (g.parked ≡ None) (handled k) h'.0.1))
    (λ (k : is_at s Handled v ≡ false).
    let f' : first_of (is_at s Handled) us ≡ Some w = rw k at f in
    let other : v.serial ≢ s = λ q. none_at s Handled us w (subst (λ (y : ℕ). is_among (map (λ (u : Unfinished). u.serial) us) y ≡ false) q (not_above v.serial (map (λ (u : Unfinished). u.serial) us) high v.serial r.1 (omega arith))) f' in
    let z : has_serial s v ≡ false = ne_eqb v.serial s other in
    ⊎_elim
    (λ (m : has_state Parked v ≡ true).
    let j = matched (has_state Parked v) ((p : sides.Parked) × (g.parked ≡ Some p) × (v.reply ≡ Some p.reply) × (parts : List (List ℕ)) × IsJobOf st rows lists v p.job parts) (g.parked ≡ None) m h'.0.1 in
    let replied : is_unanswered g ≡ false = ap (λ o. not (is_some o)) j.1 in
    rw (k, replied, m, z) (first_answers st rows lists s id gs v.serial us high w di i r.1 hf.1 f' h'.1))
    (λ (m : has_state Parked v ≡ false).
    let q : g.parked ≡ None = unmatched (has_state Parked v) ((p : sides.Parked) × (g.parked ≡ Some p) × (v.reply ≡ Some p.reply) × (parts : List (List ℕ)) × IsJobOf st rows lists v p.job parts) (g.parked ≡ None) m h'.0.1 in
    let open_ : is_unanswered g ≡ true = ap (λ o. not (is_some o)) q in
    let t : eqb g.id id ≡ false = ne_eqb g.id id (λ y. other (one_serial rows v.serial s id di (h'.0.0 ∙ ap Some y) i)) in
    rw (k, open_, m, t) refl)
    (cases_Bool (has_state Parked v)))
    (cases_Bool (is_at s Handled v)))
    (λ (n : is_in_hand v ≡ false). absurd (none_behind s v us w hf n f))
    (cases_Bool (is_in_hand v))
  where
    handled : is_at s Handled v ≡ true → has_state Parked v ≡ false
    handled k = let vs : v.state ≡ Handled = state_at s Handled v k in rw vs refl

    mine : is_at s Handled v ≡ true → id_of rows v.serial ≡ Some g.id → g.parked ≡ None → placed_or_parked id (first_of is_unanswered (g ∷ gs)) ≡ cond (reaches s (turned s Handled Parked (v ∷ us))) respond.Placed respond.Parked
    mine k own q =
        let a : is_unanswered g ≡ true = ap (λ o. not (is_some o)) q in
        let y : v.serial ≡ s = serial_at s Handled v k in
        let t : eqb g.id id ≡ true = eq-eqb g.id id (same_some g.id id (sym own ∙ ap (id_of rows) y ∙ i)) in
        let z : has_serial s v ≡ true = eq-eqb v.serial s y in
        rw (k, a, t, z) refl

-- ==== the law

pub answer_in_order : (user : UserState) (rows : List PendingRow) (d : DeviceState) (lists : List Taken) (s : ℕ) (u : Unfinished) (p : sides.Parked) (parts : List (List ℕ)) →
    CanRespond user rows d lists s u p parts → d.settings.flags.ooo ≡ false → user_respond_answer user p.job.id ≡ respond_answer d s
unfolding user_respond_answer respond_answer
answer_in_order user rows d lists s u p parts h o =
    let b : Begun user rows d lists s p = begins user rows d lists s u p parts h o in
    let more : List Unfinished = turned s Handled Parked b.more in
    let start : events.Placing = record { placed = d.placed; unfinished = events.with_parked d s } in
    let handled : is_handled d s ≡ true = any_first (is_at s Handled) d.unfinished u h.found in
    let q : u.serial ≡ s = serial_at s Handled u (found-state s Handled d.unfinished u h.found) in
    let i : id_of rows s ≡ Some p.job.id = ap (id_of rows) (sym q) ∙ h.job.id in
    let found : first_of (is_at s Handled) b.more ≡ Some u =
    sym (ap (first_of (is_at s Handled)) b.order.rows ∙ first-past (is_at s Handled) b.order.done b.more (every-weaker (λ v. is_in_hand v ≡ false) (λ v. is_at s Handled v ≡ false) b.order.done (λ v k. not_handled s v k) b.order.none)) ∙ h.found in
    let rise : Rise 0 (map (λ v. v.serial) b.more) d.accepted = rise_back 0 d.placed (map (λ v. v.serial) b.more) d.accepted (subst (λ (xs : List ℕ). Rise 0 xs d.accepted) b.order.laid b.order.rise) in
    let given : AreGiven d.settings rows lists user.jobs (filter is_in_hand b.more) = subst (AreGiven d.settings rows lists user.jobs) (in_hand_behind d b.more b.order) h.given in
    let come : list_any (is_at s Placed) (ran (parked_in d s) (serials_in d.ring.laid)).unfinished ≡ reaches s more =
    ap (λ (z : DeviceState). list_any (is_at s Placed) z.unfinished) (ran_laid (parked_in d s) more b.between.order)
    ∙ run_reaches s (parked_in d s) more b.between.order ∙ ap (λ t. t || reaches s more) (none-placed s d.unfinished u (can_answer d h.sound).differ h.found) in
    let mine : cond user.flags.ooo respond.Placed (placed_or_parked p.job.id (first_of is_unanswered user.jobs)) ≡ cond (reaches s more) respond.Placed respond.Parked =
    ap (λ t. cond t respond.Placed (placed_or_parked p.job.id (first_of is_unanswered user.jobs))) (ap (λ (f : Flags). f.ooo) h.flags ∙ o)
    ∙ first_answers d.settings rows lists s p.job.id user.jobs 0 b.more d.accepted u h.differ i rise b.order.hand found given in
    let its : cond (is_handled d s) (cond (list_any (is_at s Placed) (events.placing d s).unfinished) respond.Placed respond.Parked) (respond.NotHandled s) ≡ cond (reaches s more) respond.Placed respond.Parked =
    ap (λ t. cond t (cond (list_any (is_at s Placed) (events.placing d s).unfinished) respond.Placed respond.Parked) (respond.NotHandled s)) handled
    ∙ ap (λ t. cond (list_any (is_at s Placed) (placed_by t start s (serials_in d.ring.laid)).unfinished) respond.Placed respond.Parked) o
    ∙ ap (λ t. cond t respond.Placed respond.Parked) come in
    mine ∙ sym its
