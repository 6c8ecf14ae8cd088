-- A note is answered with the ids of those of its commands that are running: each is the id of an open job, and no other is.
use Rattle.std.proofs.Common.{◌≡◌, ℕ, ◌≤◌, ◌&&◌, Bool, true, false, not, List, [], ◌∷◌, ◌++◌, take, drop, map, filter, refl, sym, ap, ◌∙◌, arith, Option, Some, None, subst, ⊎_elim, eqb}
use Rattle.std.specs.Bool.{MatchBool}
use Rattle.std.specs.List.{list_any}
use Rattle.std.specs.Option.{is_some}
use Rattle.std.proofs.lemmas.Bool.{cases_Bool, eqb-true, eq-eqb, false≢true, true≢false, or_left, or_right, and_parts}
use Rattle.std.proofs.lemmas.List.{take-take}
use Rattle.tcmu_types.specs.Data.{SettingsData}
use Rattle.tcmu_model.specs.declared.state.CommandState.{CommandState}
use Rattle.tcmu_model.specs.declared.state.CommandState.TheVariants.{Waiting, Out, Handled, Placed, Lost}
use Rattle.tcmu_model.specs.declared.state.CommandState.TheVariants as state
use Rattle.tcmu_model.specs.RingState.{Item, serials_in, next_place}
use Rattle.tcmu_model.specs.RingState as ring
use Rattle.tcmu_model.specs.Device.{Unfinished, DeviceState, has_state, is_at}
use Rattle.tcmu_model.specs.Events.{is_in_hand, is_running, next_item}
use Rattle.tcmu_types.specs.Numbers.{is_among, Differ}
use Rattle.tcmu_model.specs.Sound.{IsSound, dispatched_serials}
use Rattle.tcmu_types.specs.Lists.{Every}
use Rattle.tcmu_model.specs.BlockLists.{Taken}
use Rattle.region_model.specs.Regions.{RegionState}
use Rattle.region_model.specs.Sides.{GivenJob, InHand, Parked, PendingRow, TargetState, UserState}
use Rattle.region_model.specs.Represents.{AreGiven, AreNoteIds, IsJobOf, IsLeftOver, IsNoteId, NoteStands, id_of, serial_with}
use Rattle.region_model.specs.UserSteps.{is_open_job}
use Rattle.tcmu_model.proofs.Basics.{laid_rise, serials_split, among_more}
use Rattle.tcmu_model.proofs.CommandStates.{state_at, serial_at, state_same}
use Rattle.tcmu_types.proofs.Everies.{every-filter, every-passes, every-both, every-weaker}
use Rattle.tcmu_model.proofs.Facts.{waiting_undispatched}
use Rattle.ring_laws.specs.Dispatched.{CanDispatch}
use Rattle.ring_laws.proofs.placed.AnswerBlocks.{differ-split}
use Rattle.ring_laws.proofs.dispatched.Nexts.{ids_at}
use Rattle.ring_laws.proofs.notes.NoteIds.{serial_under}
use Rattle.tcmu_types.proofs.Readings.{same_some}
use Rattle.ring_laws.proofs.Matched.{unmatched}
use Rattle.tcmu_types.proofs.Rises.{rise_differ}

-- ==== an open job is of a command that is running

-- what is known of a command in hand
record InHandOf (D : List ℕ) (us : List Unfinished) (u : Unfinished) : Type 0 where
  inside : is_in_hand u ≡ true
  dispatched : is_among D u.serial ≡ true
  there : list_any (is_at u.serial u.state) us ≡ true

own_at : (us : List Unfinished) → Every (λ u. list_any (is_at u.serial u.state) us ≡ true) us
own_at [] = tt
own_at (u ∷ us) = (
  or_left (is_at u.serial u.state u) (list_any (is_at u.serial u.state) us) (self u),
  every-weaker (λ (v : Unfinished). list_any (is_at v.serial v.state) us ≡ true) (λ (v : Unfinished). list_any (is_at v.serial v.state) (u ∷ us) ≡ true) us (λ v h. or_right (is_at v.serial v.state u) (list_any (is_at v.serial v.state) us) h) (own_at us),
)
  where
    self : (u : Unfinished) → is_at u.serial u.state u ≡ true
    self u = let e : eqb u.serial u.serial ≡ true = eq-eqb u.serial u.serial refl in rw e (state_same u.state)

all_in_hand : (d : DeviceState) → IsSound d → Every (InHandOf (dispatched_serials d.ring) d.unfinished) (filter is_in_hand d.unfinished)
all_in_hand d sound =
    let D : List ℕ = dispatched_serials d.ring in
    let us : List Unfinished = d.unfinished in
    every-weaker (λ (u : Unfinished). (is_in_hand u ≡ true) × ((has_state Waiting u ≡ not (is_among D u.serial)) × (list_any (is_at u.serial u.state) us ≡ true))) (InHandOf D us) (filter is_in_hand us)
    (λ u k. record { inside = k.0; dispatched = sent (is_among D u.serial) (sym k.1.0 ∙ not_waiting u k.0); there = k.1.1 })
    (every-both (λ (u : Unfinished). is_in_hand u ≡ true) (λ (u : Unfinished). (has_state Waiting u ≡ not (is_among D u.serial)) × (list_any (is_at u.serial u.state) us ≡ true)) (filter is_in_hand us)
    (every-passes is_in_hand us)
    (every-filter is_in_hand (λ (u : Unfinished). (has_state Waiting u ≡ not (is_among D u.serial)) × (list_any (is_at u.serial u.state) us ≡ true)) us
    (every-both (λ (u : Unfinished). has_state Waiting u ≡ not (is_among D u.serial)) (λ (u : Unfinished). list_any (is_at u.serial u.state) us ≡ true) us (waiting_undispatched d sound) (own_at us))))
  where
    sent : (b : Bool) → not b ≡ false → b ≡ true
    sent true h = refl
    sent false h = absurd (true≢false h)

    not_waiting : (u : Unfinished) → is_in_hand u ≡ true → has_state Waiting u ≡ false
    not_waiting u h = by_state u.state h
      where
        by_state : (t : CommandState) → is_in_hand (record u { state = t }) ≡ true → has_state Waiting (record u { state = t }) ≡ false
        by_state Waiting h = absurd (false≢true h)
        by_state Out h = refl
        by_state Handled h = refl
        by_state state.Parked h = refl
        by_state Placed h = refl
        by_state Lost h = refl

-- the command of an open job
record OpenOf (rows : List PendingRow) (P : Unfinished → Type 0) (id : ℕ) : Type 0 where
  command : Unfinished
  holds : P command
  named : id_of rows command.serial ≡ Some id
  open_ : has_state state.Parked command ≡ false

-- the user side has its job, with a reply
abbrev HasParked : SettingsData → List PendingRow → List Taken → GivenJob → Unfinished → Type 0
HasParked s rows lists g u = (p : Parked) × (g.parked ≡ Some p) × (u.reply ≡ Some p.reply) × (parts : List (List ℕ)) × IsJobOf s rows lists u p.job parts

not_parked : (b : Bool) (g : GivenJob) (P Q : Type 0) → (P → (p : Parked) × (g.parked ≡ Some p)) → MatchBool b P Q → not (is_some g.parked) ≡ true → b ≡ false
not_parked true g P Q f m h = let k : not (is_some g.parked) ≡ false = ap (λ o. not (is_some o)) (f m).1 in absurd (false≢true (sym k ∙ h))
not_parked false g P Q f m h = refl

open_of : (s : SettingsData) (rows : List PendingRow) (lists : List Taken) (P : Unfinished → Type 0) (id : ℕ) (gs : List GivenJob) (us : List Unfinished) → AreGiven s rows lists gs us → Every P us → list_any (is_open_job id) gs ≡ true → OpenOf rows P id
open_of s rows lists P id [] us a e h = absurd (false≢true h)
open_of s rows lists P id (g ∷ gs) [] a e h = absurd a
open_of s rows lists P id (g ∷ gs) (u ∷ us) a e h =
    ⊎_elim
    (λ (k : is_open_job id g ≡ true).
    let both = and_parts (eqb g.id id) (not (is_some g.parked)) k in
    record {
      command = u;
      holds = e.0;
      named = a.0.0 ∙ ap Some (eqb-true g.id id both.0);
      open_ = not_parked (has_state state.Parked u) g (HasParked s rows lists g u) (g.parked ≡ None) (λ m. (m.0, m.1)) a.0.1 both.1;
    })
    (λ (k : is_open_job id g ≡ false). let m : list_any (is_open_job id) gs ≡ true = rw k at h in open_of s rows lists P id gs us a.1 e.1 m)
    (cases_Bool (is_open_job id g))

running_of : (us : List Unfinished) (u : Unfinished) → is_in_hand u ≡ true → has_state state.Parked u ≡ false → list_any (is_at u.serial u.state) us ≡ true → is_running us u.serial ≡ true
running_of us u h n l = by_state u.state h n l
  where
    by_state : (t : CommandState) → is_in_hand (record u { state = t }) ≡ true → has_state state.Parked (record u { state = t }) ≡ false → list_any (is_at u.serial t) us ≡ true → is_running us u.serial ≡ true
    by_state Waiting h n l = absurd (false≢true h)
    by_state Out h n l = or_left (list_any (is_at u.serial Out) us) (list_any (is_at u.serial Handled) us) l
    by_state Handled h n l = or_right (list_any (is_at u.serial Out) us) (list_any (is_at u.serial Handled) us) l
    by_state state.Parked h n l = absurd (true≢false n)
    by_state Placed h n l = absurd (false≢true h)
    by_state Lost h n l = absurd (false≢true h)

-- ==== a command that is running has an open job

record JobOpen (rows : List PendingRow) (gs : List GivenJob) (s : ℕ) : Type 0 where
  id : ℕ
  named : id_of rows s ≡ Some id
  there : list_any (is_open_job id) gs ≡ true

job_open : (z : SettingsData) (rows : List PendingRow) (lists : List Taken) (s : ℕ) (t : CommandState) (gs : List GivenJob) (us : List Unfinished) → ((u : Unfinished) → u.state ≡ t → is_in_hand u ≡ true) → ((u : Unfinished) → u.state ≡ t → has_state state.Parked u ≡ false) →
    AreGiven z rows lists gs (filter is_in_hand us) → list_any (is_at s t) us ≡ true → JobOpen rows gs s
job_open z rows lists s t gs [] f k a h = absurd (false≢true h)
job_open z rows lists s t gs (u ∷ us) f k a h =
    ⊎_elim
    (λ (e : is_at s t u ≡ true).
    let st : u.state ≡ t = state_at s t u e in
    let n : is_in_hand u ≡ true = f u st in
    let a' : AreGiven z rows lists gs (u ∷ filter is_in_hand us) = rw n at a in
    here gs (serial_at s t u e) (k u st) a')
    (λ (e : is_at s t u ≡ false).
    let h' : list_any (is_at s t) us ≡ true = rw e at h in
    ⊎_elim
    (λ (n : is_in_hand u ≡ true). let a' : AreGiven z rows lists gs (u ∷ filter is_in_hand us) = rw n at a in behind gs (λ xs p. job_open z rows lists s t xs us f k p h') a')
    (λ (n : is_in_hand u ≡ false). let a' : AreGiven z rows lists gs (filter is_in_hand us) = rw n at a in job_open z rows lists s t gs us f k a' h')
    (cases_Bool (is_in_hand u)))
    (cases_Bool (is_at s t u))
  where
    here : (gs : List GivenJob) → u.serial ≡ s → has_state state.Parked u ≡ false → AreGiven z rows lists gs (u ∷ filter is_in_hand us) → JobOpen rows gs s
    here [] q n a = absurd a
    here (g ∷ gs) q n a =
        let none : g.parked ≡ None = unmatched (has_state state.Parked u) _ _ n a.0.1 in
        let same : eqb g.id g.id ≡ true = eq-eqb g.id g.id refl in
        let o : is_open_job g.id g ≡ true = ap (λ b. b && not (is_some g.parked)) same ∙ ap (λ x. not (is_some x)) none in
        record { id = g.id; named = ap (id_of rows) (sym q) ∙ a.0.0; there = or_left (is_open_job g.id g) (list_any (is_open_job g.id) gs) o }

    behind : (gs : List GivenJob) → ((xs : List GivenJob) → AreGiven z rows lists xs (filter is_in_hand us) → JobOpen rows xs s) → AreGiven z rows lists gs (u ∷ filter is_in_hand us) → JobOpen rows gs s
    behind [] again a = absurd a
    behind (g ∷ gs) again a =
        let o : JobOpen rows gs s = again gs a.1 in
        record { id = o.id; named = o.named; there = or_right (is_open_job o.id g) (list_any (is_open_job o.id) gs) o.there }

open_running : (z : SettingsData) (rows : List PendingRow) (lists : List Taken) (s : ℕ) (gs : List GivenJob) (us : List Unfinished) → AreGiven z rows lists gs (filter is_in_hand us) → is_running us s ≡ true → JobOpen rows gs s
open_running z rows lists s gs us a h =
    ⊎_elim
    (λ (e : list_any (is_at s Out) us ≡ true). job_open z rows lists s Out gs us (λ u st. rw st refl) (λ u st. rw st refl) a e)
    (λ (e : list_any (is_at s Out) us ≡ false). let g : list_any (is_at s Handled) us ≡ true = rw e at h in job_open z rows lists s Handled gs us (λ u st. rw st refl) (λ u st. rw st refl) a g)
    (cases_Bool (list_any (is_at s Out) us))

-- ==== one id of a note

-- its job is open exactly where its serial runs, and then it is that serial's id
record Agrees (rows : List PendingRow) (gs : List GivenJob) (us : List Unfinished) (s id : ℕ) : Type 0 where
  same : list_any (is_open_job id) gs ≡ is_running us s
  named : is_running us s ≡ true → id_of rows s ≡ Some id

agree : (d : DeviceState) (rows : List PendingRow) (lists : List Taken) (gs : List GivenJob) (i s id : ℕ) → IsSound d → d.ring.dispatched ≤ i → Differ (map (λ (e : PendingRow). e.id) rows) → AreGiven d.settings rows lists gs (filter is_in_hand d.unfinished) →
    IsNoteId rows (serials_in (drop i d.ring.laid)) s id → Agrees rows gs d.unfinished s id
agree d rows lists gs i s id sound l differ given note =
    record {
      same =
          ⊎_elim
          (λ (o : list_any (is_open_job id) gs ≡ true). o ∙ sym (runs o))
          (λ (o : list_any (is_open_job id) gs ≡ false).
          ⊎_elim
          (λ (k : is_running d.unfinished s ≡ true).
          let j : JobOpen rows gs s = open_running d.settings rows lists s gs d.unfinished given k in
          let q : j.id ≡ id = same_some j.id id (sym j.named ∙ mine k) in
          absurd (false≢true (sym o ∙ ap (λ y. list_any (is_open_job y) gs) (sym q) ∙ j.there)))
          (λ (k : is_running d.unfinished s ≡ false). o ∙ sym k)
          (cases_Bool (is_running d.unfinished s)))
          (cases_Bool (list_any (is_open_job id) gs));
      named = mine;
    }
  where
    mine : is_running d.unfinished s ≡ true → id_of rows s ≡ Some id
    mine k =
        let j : JobOpen rows gs s = open_running d.settings rows lists s gs d.unfinished given k in
        ⊎_elim
        (λ (m : id_of rows s ≡ Some id). m)
        (λ (n : (id_of rows s ≡ None) × IsLeftOver rows (serials_in (drop i d.ring.laid)) id). let w : None ≡ Some j.id = sym n.0 ∙ j.named in absurd (cc))
        note

    runs : list_any (is_open_job id) gs ≡ true → is_running d.unfinished s ≡ true
    runs o =
        let D : List ℕ = dispatched_serials d.ring in
        let f : OpenOf rows (InHandOf D d.unfinished) id = open_of d.settings rows lists (InHandOf D d.unfinished) id gs (filter is_in_hand d.unfinished) given (all_in_hand d sound) o in
        let u : Unfinished = f.command in
        let under : serial_with rows id ≡ Some u.serial = serial_under rows u.serial id differ f.named in
        let k : is_running d.unfinished u.serial ≡ true = running_of d.unfinished u f.holds.inside f.open_ f.holds.there in
        let D' : List ℕ = serials_in (take i d.ring.laid) in
        let cut : take d.ring.dispatched (take i d.ring.laid) ≡ take d.ring.dispatched d.ring.laid = take-take d.ring.dispatched i d.ring.laid l in
        let first : is_among D' u.serial ≡ true = among_more d.ring.dispatched (take i d.ring.laid) u.serial (ap (λ xs. is_among (serials_in xs) u.serial) cut ∙ f.holds.dispatched) in
        let apart : Differ (D' ++ serials_in (drop i d.ring.laid)) = subst Differ (sym (serials_split i d.ring.laid)) (rise_differ 0 (serials_in d.ring.laid) d.accepted (laid_rise d sound.serials)) in
        ⊎_elim
        (λ (m : id_of rows s ≡ Some id).
        let q : s ≡ u.serial = same_some s u.serial (sym (serial_under rows s id differ m) ∙ under) in
        ap (is_running d.unfinished) q ∙ k)
        (λ (n : (id_of rows s ≡ None) × IsLeftOver rows (serials_in (drop i d.ring.laid)) id).
        ⊎_elim
        (λ (z : serial_with rows id ≡ None). let w : None ≡ Some u.serial = sym z ∙ under in absurd (cc))
        (λ (m : (t : ℕ) × (serial_with rows id ≡ Some t) × (is_among (serials_in (drop i d.ring.laid)) t ≡ true)).
        let q : m.0 ≡ u.serial = same_some m.0 u.serial (sym m.1 ∙ under) in
        let b : is_among (serials_in (drop i d.ring.laid)) u.serial ≡ true = ap (is_among (serials_in (drop i d.ring.laid))) (sym q) ∙ m.2 in
        absurd (false≢true (sym (differ-split D' (serials_in (drop i d.ring.laid)) u.serial apart b) ∙ first)))
        n.1)
        note

-- ==== all of them

all_agree : (d : DeviceState) (rows : List PendingRow) (lists : List Taken) (gs : List GivenJob) (i : ℕ) (ss ids : List ℕ) → IsSound d → d.ring.dispatched ≤ i → Differ (map (λ (e : PendingRow). e.id) rows) → AreGiven d.settings rows lists gs (filter is_in_hand d.unfinished) →
    AreNoteIds rows (serials_in (drop i d.ring.laid)) ss ids → map Some (filter (λ id. list_any (is_open_job id) gs) ids) ≡ map (id_of rows) (filter (is_running d.unfinished) ss)
all_agree d rows lists gs i [] [] sound l differ given notes = refl
all_agree d rows lists gs i [] (id ∷ ids) sound l differ given notes = absurd notes
all_agree d rows lists gs i (s ∷ ss) [] sound l differ given notes = absurd notes
all_agree d rows lists gs i (s ∷ ss) (id ∷ ids) sound l differ given notes =
    let a : Agrees rows gs d.unfinished s id = agree d rows lists gs i s id sound l differ given notes.0 in
    let rest : map Some (filter (λ id. list_any (is_open_job id) gs) ids) ≡ map (id_of rows) (filter (is_running d.unfinished) ss) = all_agree d rows lists gs i ss ids sound l differ given notes.1 in
    ⊎_elim
    (λ (k : is_running d.unfinished s ≡ true).
    let o : list_any (is_open_job id) gs ≡ true = a.same ∙ k in
    let m : id_of rows s ≡ Some id = a.named k in
    rw (k, o) (ap (λ (x : Option ℕ). x ∷ map Some (filter (λ id. list_any (is_open_job id) gs) ids)) (sym m) ∙ ap (λ (xs : List (Option ℕ)). id_of rows s ∷ xs) rest))
    (λ (k : is_running d.unfinished s ≡ false). let o : list_any (is_open_job id) gs ≡ false = a.same ∙ k in rw (k, o) rest)
    (cases_Bool (is_running d.unfinished s))

pub note_there : (r : RegionState) (t : TargetState) (user : UserState) (hand : List InHand) (d : DeviceState) (lists : List Taken) (n type_ : ℕ) (ss : List ℕ) → CanDispatch r t user hand d lists →
    next_item d ≡ Some (record { len = n; laid = ring.Tmr type_ ss }) →
    NoteStands t.rows (serials_in (take (next_place d.ring) d.ring.laid)) (serials_in (drop (next_place d.ring) d.ring.laid)) type_ ss (ids_at r d n ss)
note_there r t user hand d lists n type_ ss h g = h.notes (next_place d.ring) n type_ ss (omega arith) g

pub notes_answered : (r : RegionState) (t : TargetState) (user : UserState) (hand : List InHand) (d : DeviceState) (lists : List Taken) (n type_ : ℕ) (ss : List ℕ) → CanDispatch r t user hand d lists →
    next_item d ≡ Some (record { len = n; laid = ring.Tmr type_ ss }) →
    map Some (filter (λ id. list_any (is_open_job id) user.jobs) (ids_at r d n ss)) ≡ map (id_of t.rows) (filter (is_running d.unfinished) ss)
notes_answered r t user hand d lists n type_ ss h g =
    all_agree d t.rows lists user.jobs (next_place d.ring) ss (ids_at r d n ss) h.sound (omega arith) h.ids.differ h.jobs.given (note_there r t user hand d lists n type_ ss h g).named
