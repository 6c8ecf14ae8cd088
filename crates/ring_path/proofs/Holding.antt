-- What an unfinished command holds: its blocks, and its payload in its job or in its blocks.
use Rattle.std.proofs.Common.{◌≡◌, ℕ, ◌-◌, ◌≤◌, Bool, true, false, cond, ◌||◌, ◌&&◌, eqb, nat_lt, List, [], ◌∷◌, length, take, map, filter, Option, None, Some, option_map, option_and_then, refl, sym, ap, ◌∙◌, subst, arith, ⊎_elim}
use Rattle.std.specs.Option.{is_some}
use Rattle.std.proofs.lemmas.Bool.{and_from, cases_Bool, eq-eqb, eqb-true, false≢true, ltb-true, or_left, true≢false}
use Rattle.std.proofs.lemmas.Option.{slice_get_within}
use Rattle.std.proofs.lemmas.Simd.{map-map}
use Rattle.tcmu_types.specs.Dumps.{HeldData}
use Rattle.tcmu_types.specs.Lists.{first_of}
use Rattle.tcmu_types.specs.Numbers.{Differ, is_among}
use Rattle.tcmu_types.specs.Rules.{payload_length}
use Rattle.tcmu_types.proofs.Everies.{every-first}
use Rattle.tcmu_types.proofs.Firsts.{first-passes}
use Rattle.tcmu_types.proofs.Rises.{rise_differ}
use Rattle.tcmu_model.specs.BlockLists.{Taken, list_of}
use Rattle.tcmu_model.specs.Device.{DeviceState, Unfinished, has_serial, has_state}
use Rattle.tcmu_model.specs.Events.{is_in_hand}
use Rattle.tcmu_model.specs.declared.state.CommandState.TheVariants as state
use Rattle.tcmu_model.proofs.Basics.{rows_rise}
use Rattle.tcmu_model.specs.Lengths.{block_size}
use Rattle.region_model.specs.Areas.{bytes_along}
use Rattle.region_model.specs.HandSteps.{hand_has}
use Rattle.region_model.specs.Pending.{PendingData}
use Rattle.region_model.specs.Picture.{payload_of, shown_command}
use Rattle.region_model.specs.Regions.{RegionState}
use Rattle.region_model.specs.Represents.{AreGiven, AreOut, IsGiven, IsJobOf, IsOut, id_of, is_out, pending_of, row_has}
use Rattle.region_model.specs.Sides.{Carried, GivenJob, InHand, JobState, Parked, PendingRow, TargetState, UserState}
use Rattle.tcmu_types.specs.Data.{SettingsData}
use Rattle.target_table.specs.Rows.{command_of, is_behind}
use Rattle.user_lib.specs.Given.{is_parked_job, parked_job}
use Rattle.user_lib.specs.OnDevice.{StandsFor}
use Rattle.ring_laws.proofs.Found.{found_by}
use Rattle.ring_laws.proofs.Matched.{matched}
use Rattle.ring_laws.proofs.shown.PictureShown.{payloads_home}
use Rattle.ring_path.specs.Devices.{RingDevice}
use Rattle.ring_path.specs.Dumped.{HasLength, HasLengths, bytes_kept, carried_bytes, held_read, job_kept, job_or}
use Rattle.ring_path.specs.Rings.{IsRing}
use Rattle.ring_path.proofs.Lengths.{lengths_told}

-- ==== what is found first

-- where none has a number, none of those that pass has it
none_passing : {X : Type 0} (p : X → Bool) (g : X → ℕ) (n : ℕ) (xs : List X) → is_among (map g xs) n ≡ false → first_of (λ x. eqb (g x) n) (filter p xs) ≡ None
none_passing p g n [] h = refl
none_passing p g n (x ∷ xs) h =
    ⊎_elim
    (λ (k : eqb (g x) n ≡ true). absurd (true≢false (sym (or_left (eqb (g x) n) (is_among (map g xs) n) k) ∙ h)))
    (λ (k : eqb (g x) n ≡ false).
    let h' : is_among (map g xs) n ≡ false = rw k at h in
    ⊎_elim
    (λ (e : p x ≡ true). rw e (rw k (none_passing p g n xs h')))
    (λ (e : p x ≡ false). rw e (none_passing p g n xs h'))
    (cases_Bool (p x)))
    (cases_Bool (eqb (g x) n))

first_passing : {X : Type 0} (p q : X → Bool) (xs : List X) (x : X) → first_of q xs ≡ Some x → p x ≡ true → first_of q (filter p xs) ≡ Some x
first_passing p q [] x h e = absurd (cc)
first_passing p q (y ∷ ys) x h e =
    ⊎_elim
    (λ (k : q y ≡ true).
    let h' : Some y ≡ Some x = rw k at h in
    let s : y ≡ x = cc in
    let e' : p y ≡ true = ap p s ∙ e in
    rw e' (rw k h'))
    (λ (k : q y ≡ false).
    let h' : first_of q ys ≡ Some x = rw k at h in
    ⊎_elim
    (λ (f : p y ≡ true). rw f (rw k (first_passing p q ys x h' e)))
    (λ (f : p y ≡ false). rw f (first_passing p q ys x h' e))
    (cases_Bool (p y)))
    (cases_Bool (q y))

-- one that doesn't pass, whose number is its own alone
first_missing : {X : Type 0} (p : X → Bool) (g : X → ℕ) (xs : List X) (x : X) → Differ (map g xs) → first_of (λ y. eqb (g y) (g x)) xs ≡ Some x → p x ≡ false → first_of (λ y. eqb (g y) (g x)) (filter p xs) ≡ None
first_missing p g [] x d h e = refl
first_missing p g (y ∷ ys) x d h e =
    ⊎_elim
    (λ (k : eqb (g y) (g x) ≡ true).
    let h' : Some y ≡ Some x = rw k at h in
    let s : y ≡ x = cc in
    let e' : p y ≡ false = ap p s ∙ e in
    let none : is_among (map g ys) (g x) ≡ false = subst (λ (n : ℕ). is_among (map g ys) n ≡ false) (ap g s) d.0 in
    rw e' (none_passing p g (g x) ys none))
    (λ (k : eqb (g y) (g x) ≡ false).
    let h' : first_of (λ z. eqb (g z) (g x)) ys ≡ Some x = rw k at h in
    ⊎_elim
    (λ (f : p y ≡ true). rw f (rw k (first_missing p g ys x d.1 h' e)))
    (λ (f : p y ≡ false). rw f (first_missing p g ys x d.1 h' e))
    (cases_Bool (p y)))
    (cases_Bool (eqb (g y) (g x)))

-- ==== the jobs in hand

none_out : (st : SettingsData) (rows : List PendingRow) (lists : List Taken) (s : ℕ) (hs : List InHand) (us : List Unfinished) → AreOut st rows lists hs us → first_of (has_serial s) us ≡ None → first_of (hand_has s) hs ≡ None
none_out st rows lists s [] us a h = refl
none_out st rows lists s (x ∷ hs) [] a h = absurd a
none_out st rows lists s (x ∷ hs) (u ∷ us) a h =
    ⊎_elim
    (λ (k : has_serial s u ≡ true). let h' : Some u ≡ None = rw k at h in absurd (cc))
    (λ (k : has_serial s u ≡ false).
    let h' : first_of (has_serial s) us ≡ None = rw k at h in
    let k' : hand_has s x ≡ false = ap (λ (n : ℕ). eqb n s) a.0.0 ∙ k in
    rw k' (none_out st rows lists s hs us a.1 h'))
    (cases_Bool (has_serial s u))

first_out : (st : SettingsData) (rows : List PendingRow) (lists : List Taken) (s : ℕ) (hs : List InHand) (us : List Unfinished) (u : Unfinished) → AreOut st rows lists hs us → first_of (has_serial s) us ≡ Some u →
    (h : InHand) × (first_of (hand_has s) hs ≡ Some h) × IsOut st rows lists h u
first_out st rows lists s hs [] u a h = absurd (cc)
first_out st rows lists s [] (v ∷ us) u a h = absurd a
first_out st rows lists s (x ∷ hs) (v ∷ us) u a h =
    ⊎_elim
    (λ (k : has_serial s v ≡ true).
    let h' : Some v ≡ Some u = rw k at h in
    let q : v ≡ u = cc in
    let k' : hand_has s x ≡ true = ap (λ (n : ℕ). eqb n s) a.0.0 ∙ k in
    rw k' (x, refl, subst (λ (z : Unfinished). IsOut st rows lists x z) q a.0))
    (λ (k : has_serial s v ≡ false).
    let h' : first_of (has_serial s) us ≡ Some u = rw k at h in
    let k' : hand_has s x ≡ false = ap (λ (n : ℕ). eqb n s) a.0.0 ∙ k in
    rw k' (first_out st rows lists s hs us u a.1 h'))
    (cases_Bool (has_serial s v))

-- ==== the parked jobs

-- no other command has the id
abbrev HasAlone : List PendingRow → ℕ → ℕ → Type 0
HasAlone rows id s = (n : ℕ) → id_of rows n ≡ Some id → n ≡ s

not_parked : (s id : ℕ) (g : GivenJob) → (eqb g.id id ≡ true → ⊥) → is_parked_job id g ≡ false
not_parked s id g apart = go (eqb g.id id) refl
  where
    go : (b : Bool) → eqb g.id id ≡ b → is_parked_job id g ≡ false
    go true e = absurd (apart e)
    go false e = ap (λ b. b && is_some g.parked) e

-- a command of another serial has another id
other_id : (st : SettingsData) (rows : List PendingRow) (lists : List Taken) (s id : ℕ) (g : GivenJob) (u : Unfinished) → HasAlone rows id s → IsGiven st rows lists g u → has_serial s u ≡ false → is_parked_job id g ≡ false
other_id st rows lists s id g u one i k =
    not_parked s id g (λ (e : eqb g.id id ≡ true). false≢true (sym k ∙ eq-eqb u.serial s (one u.serial (i.0 ∙ ap Some (eqb-true g.id id e)))))

none_parked : (st : SettingsData) (rows : List PendingRow) (lists : List Taken) (s id : ℕ) (gs : List GivenJob) (us : List Unfinished) → HasAlone rows id s → AreGiven st rows lists gs us → first_of (has_serial s) us ≡ None → first_of (is_parked_job id) gs ≡ None
none_parked st rows lists s id [] us one a h = refl
none_parked st rows lists s id (g ∷ gs) [] one a h = absurd a
none_parked st rows lists s id (g ∷ gs) (u ∷ us) one a h =
    ⊎_elim
    (λ (k : has_serial s u ≡ true). let h' : Some u ≡ None = rw k at h in absurd (cc))
    (λ (k : has_serial s u ≡ false).
    let h' : first_of (has_serial s) us ≡ None = rw k at h in
    let k' : is_parked_job id g ≡ false = other_id st rows lists s id g u one a.0 k in
    rw k' (none_parked st rows lists s id gs us one a.1 h'))
    (cases_Bool (has_serial s u))

-- the job of a parked command
record Parks (st : SettingsData) (rows : List PendingRow) (lists : List Taken) (u : Unfinished) (found : Option GivenJob) : Type 0 where
  given : GivenJob
  it : Parked
  there : found ≡ Some given
  has : given.parked ≡ Some it
  parts : List (List ℕ)
  job : IsJobOf st rows lists u it.job parts

parks_here : (st : SettingsData) (rows : List PendingRow) (lists : List Taken) (s id : ℕ) (g : GivenJob) (u : Unfinished) → has_state state.Parked u ≡ true → id_of rows u.serial ≡ Some id → IsGiven st rows lists g u →
    (is_parked_job id g ≡ true) × Parks st rows lists u (Some g)
parks_here st rows lists s id g u p i a =
    let w = matched (has_state state.Parked u) _ _ p a.1 in
    let e : Some g.id ≡ Some id = sym a.0 ∙ i in
    let q : g.id ≡ id = cc in
    (and_from (eqb g.id id) (is_some g.parked) (eq-eqb g.id id q) (ap is_some w.1), record { given = g; it = w.0; there = refl; has = w.1; parts = w.3; job = w.4 })

first_parked : (st : SettingsData) (rows : List PendingRow) (lists : List Taken) (s id : ℕ) (gs : List GivenJob) (us : List Unfinished) (u : Unfinished) → HasAlone rows id s → has_state state.Parked u ≡ true → id_of rows u.serial ≡ Some id →
    AreGiven st rows lists gs us → first_of (has_serial s) us ≡ Some u → Parks st rows lists u (first_of (is_parked_job id) gs)
first_parked st rows lists s id gs [] u one p i a h = absurd (cc)
first_parked st rows lists s id [] (v ∷ us) u one p i a h = absurd a
first_parked st rows lists s id (g ∷ gs) (v ∷ us) u one p i a h =
    ⊎_elim
    (λ (k : has_serial s v ≡ true).
    let h' : Some v ≡ Some u = rw k at h in
    let q : v ≡ u = cc in
    let w = parks_here st rows lists s id g u p i (subst (λ (z : Unfinished). IsGiven st rows lists g z) q a.0) in
    let t : is_parked_job id g ≡ true = w.0 in
    rw t w.1)
    (λ (k : has_serial s v ≡ false).
    let h' : first_of (has_serial s) us ≡ Some u = rw k at h in
    let k' : is_parked_job id g ≡ false = other_id st rows lists s id g v one a.0 k in
    rw k' (first_parked st rows lists s id gs us u one p i a.1 h'))
    (cases_Bool (has_serial s v))

-- ==== rows and commands

-- rows and commands stand beside each other
record Pair (lists : List Taken) (p : ℕ → Bool) (rows : List PendingRow) (us : List Unfinished) (e : PendingRow) : Type 0 where
  it : Unfinished
  there : first_of (λ (u : Unfinished). p u.serial) us ≡ Some it
  same : e.pending ≡ pending_of lists it

paired : (lists : List Taken) (p : ℕ → Bool) (rows : List PendingRow) (us : List Unfinished) (e : PendingRow) → map (λ (r : PendingRow). r.pending) rows ≡ map (pending_of lists) us → first_of (λ (r : PendingRow). p r.pending.serial) rows ≡ Some e → Pair lists p rows us e
paired lists p [] us e m h = absurd (cc)
paired lists p (r ∷ rows) [] e m h = absurd (cc)
paired lists p (r ∷ rows) (u ∷ us) e m h =
    let head : r.pending ≡ pending_of lists u = cc in
    let rest : map (λ (x : PendingRow). x.pending) rows ≡ map (pending_of lists) us = cc in
    let n : r.pending.serial ≡ u.serial = ap (λ (x : PendingData). x.serial) head in
    ⊎_elim
    (λ (k : p r.pending.serial ≡ true).
    let h' : Some r ≡ Some e = rw k at h in
    let q : r ≡ e = cc in
    let k' : p u.serial ≡ true = ap p (sym n) ∙ k in
    record { it = u; there = rw k' refl; same = ap (λ (x : PendingRow). x.pending) (sym q) ∙ head })
    (λ (k : p r.pending.serial ≡ false).
    let h' : first_of (λ (x : PendingRow). p x.pending.serial) rows ≡ Some e = rw k at h in
    let k' : p u.serial ≡ false = ap p (sym n) ∙ k in
    let w = paired lists p rows us e rest h' in
    record { it = w.it; there = rw k' w.there; same = w.same })
    (cases_Bool (p r.pending.serial))

none_paired : (lists : List Taken) (p : ℕ → Bool) (rows : List PendingRow) (us : List Unfinished) → map (λ (r : PendingRow). r.pending) rows ≡ map (pending_of lists) us → first_of (λ (r : PendingRow). p r.pending.serial) rows ≡ None → first_of (λ (u : Unfinished). p u.serial) us ≡ None
none_paired lists p rows [] m h = refl
none_paired lists p [] (u ∷ us) m h = absurd (cc)
none_paired lists p (r ∷ rows) (u ∷ us) m h =
    let head : r.pending ≡ pending_of lists u = cc in
    let rest : map (λ (x : PendingRow). x.pending) rows ≡ map (pending_of lists) us = cc in
    let n : r.pending.serial ≡ u.serial = ap (λ (x : PendingData). x.serial) head in
    ⊎_elim
    (λ (k : p r.pending.serial ≡ true). let h' : Some r ≡ None = rw k at h in absurd (cc))
    (λ (k : p r.pending.serial ≡ false).
    let h' : first_of (λ (x : PendingRow). p x.pending.serial) rows ≡ None = rw k at h in
    let k' : p u.serial ≡ false = ap p (sym n) ∙ k in
    rw k' (none_paired lists p rows us rest h'))
    (cases_Bool (p r.pending.serial))

row_of_id : (o : Option PendingRow) (i : ℕ) → option_map (λ (e : PendingRow). e.id) o ≡ Some i → (e : PendingRow) × (o ≡ Some e) × (e.id ≡ i)
row_of_id None i h = absurd (cc)
row_of_id (Some e) i h = (e, refl, cc)

-- a row's id is that of its serial alone
alone : (rows : List PendingRow) (q : PendingRow → Bool) (e : PendingRow) → Differ (map (λ (r : PendingRow). r.id) rows) → first_of q rows ≡ Some e → HasAlone rows e.id e.pending.serial
alone rows q e d h = λ n i.
    let w = row_of_id (first_of (row_has n) rows) e.id i in
    let a : first_of (λ (r : PendingRow). eqb r.id w.0.id) rows ≡ Some w.0 = found_by (row_has n) (λ (r : PendingRow). r.id) rows w.0 d w.1 in
    let a' : first_of (λ (r : PendingRow). eqb r.id e.id) rows ≡ Some w.0 = subst (λ (k : ℕ). first_of (λ (r : PendingRow). eqb r.id k) rows ≡ Some w.0) w.2 a in
    let b : first_of (λ (r : PendingRow). eqb r.id e.id) rows ≡ Some e = found_by q (λ (r : PendingRow). r.id) rows e d h in
    let z : Some w.0 ≡ Some e = sym a' ∙ b in
    let s : w.0 ≡ e = cc in
    let m : eqb w.0.pending.serial n ≡ true = first-passes (row_has n) rows w.0 w.1 in
    sym (eqb-true w.0.pending.serial n m) ∙ ap (λ (r : PendingRow). r.pending.serial) s

-- ==== the states of a command

in_hand_parked : (a b c : Bool) → (a || b || c) ≡ true → cond a true b ≡ false → c ≡ true
in_hand_parked true b c h e = absurd (true≢false e)
in_hand_parked false true c h e = absurd (true≢false e)
in_hand_parked false false c h e = h

-- ==== the payload

job_bytes : (st : SettingsData) (rows : List PendingRow) (lists : List Taken) (r : RegionState) (u : Unfinished) (job : JobState) (parts : List (List ℕ)) (bs : List ℕ) → IsJobOf st rows lists u job parts → bytes_kept r (Some job) bs (payload_length u.command) ≡ payload_of u
job_bytes st rows lists r u job parts bs j = ap (λ (x : Carried). take (payload_length u.command) (carried_bytes x)) j.carried ∙ j.payload

parked_is : (o : Option GivenJob) (g : GivenJob) (p : Parked) → o ≡ Some g → g.parked ≡ Some p → option_and_then (λ (x : GivenJob). option_map (λ (y : Parked). y.job) x.parked) o ≡ Some p.job
parked_is o g p e f = ap (option_and_then (λ (x : GivenJob). option_map (λ (y : Parked). y.job) x.parked)) e ∙ ap (option_map (λ (y : Parked). y.job)) f

-- the command's payload stands where a dump reads it
pub payload_kept : (r : RegionState) (t : TargetState) (user : UserState) (hand : List InHand) (d : DeviceState) (lists : List Taken) (u : Unfinished) (id : ℕ) → StandsFor r t user hand d lists → first_of (has_serial u.serial) d.unfinished ≡ Some u →
    HasAlone t.rows id u.serial → id_of t.rows u.serial ≡ Some id → bytes_kept r (job_kept hand user.jobs id u.serial) (list_of lists u.serial) (payload_length u.command) ≡ payload_of u
payload_kept r t user hand d lists u id k h one i =
    let s : ℕ = u.serial in
    let p = k.represents in
    let n : ℕ = payload_length u.command in
    let bs : List ℕ = list_of lists s in
    let differ : Differ (map (λ (v : Unfinished). v.serial) d.unfinished) = rise_differ 0 (map (λ (v : Unfinished). v.serial) d.unfinished) d.accepted (rows_rise d k.sound.serials) in
    let other : is_out u ≡ false → job_kept hand user.jobs id s ≡ parked_job id user.jobs =
    λ o. ap (λ (x : Option InHand). job_or x (parked_job id user.jobs)) (none_out d.settings t.rows lists s hand (filter is_out d.unfinished) p.jobs.out (first_missing is_out (λ (v : Unfinished). v.serial) d.unfinished u differ h o)) in
    ⊎_elim
    (λ (o : is_out u ≡ true).
    let w = first_out d.settings t.rows lists s hand (filter is_out d.unfinished) u p.jobs.out (first_passing is_out (has_serial s) d.unfinished u h o) in
    ap (λ (x : Option InHand). bytes_kept r (job_or x (parked_job id user.jobs)) bs n) w.1 ∙ job_bytes d.settings t.rows lists r u w.0.job w.2.2.0 bs w.2.2.1)
    (λ (o : is_out u ≡ false).
    ⊎_elim
    (λ (c : is_in_hand u ≡ true).
    let parked : has_state state.Parked u ≡ true = in_hand_parked (has_state state.Out u) (has_state state.Handled u) (has_state state.Parked u) c o in
    let w = first_parked d.settings t.rows lists s id user.jobs (filter is_in_hand d.unfinished) u one parked i p.jobs.given (first_passing is_in_hand (has_serial s) d.unfinished u h c) in
    ap (λ (x : Option JobState). bytes_kept r x bs n) (other o ∙ parked_is (first_of (is_parked_job id) user.jobs) w.given w.it w.there w.has) ∙ job_bytes d.settings t.rows lists r u w.it.job w.parts bs w.job)
    (λ (c : is_in_hand u ≡ false).
    let none : parked_job id user.jobs ≡ None =
    ap (option_and_then (λ (x : GivenJob). option_map (λ (y : Parked). y.job) x.parked))
    (none_parked d.settings t.rows lists s id user.jobs (filter is_in_hand d.unfinished) one p.jobs.given (first_missing is_in_hand (λ (v : Unfinished). v.serial) d.unfinished u differ h c)) in
    let home = every-first (has_serial s) _ d.unfinished u (payloads_home r.blocks d lists k.sound p.blocks) h c in
    ap (λ (x : Option JobState). bytes_kept r x bs n) (other o ∙ none) ∙ subst (λ (m : ℕ). take n (bytes_along (block_size m) r.blocks bs) ≡ payload_of u) (sym p.pages) home)
    (cases_Bool (is_in_hand u)))
    (cases_Bool (is_out u))

-- ==== what the next command holds

pub record NextHeld (lengths : List ℕ) (r : RegionState) (t : TargetState) (user : UserState) (hand : List InHand) (k : RingDevice) (s id : ℕ) : Type 0 where
  pub it : Unfinished
  pub there : first_of (λ (u : Unfinished). nat_lt s u.serial) k.state.unfinished ≡ Some it
  pub command : command_of t.rows id ≡ Some (pending_of k.lists it)
  pub low : 1 ≤ it.serial
  pub told : HasLength lengths it.serial (payload_length it.command)
  pub payload : bytes_kept r (job_kept hand user.jobs id it.serial) (list_of k.lists it.serial) (payload_length it.command) ≡ payload_of it

pub next_held : (lengths : List ℕ) (r : RegionState) (t : TargetState) (user : UserState) (hand : List InHand) (b : Bool) (most : ℕ) (k : RingDevice) (s id : ℕ) → IsRing r t user hand b most k → HasLengths lengths k.state →
    Some id ≡ option_map (λ (e : PendingRow). e.id) (first_of (is_behind s) t.rows) → NextHeld lengths r t user hand k s id
next_held lengths r t user hand b most k s id h l e =
    let st = h.stands in
    let p = st.represents in
    let f = row_of_id (first_of (is_behind s) t.rows) id (sym e) in
    let w = paired k.lists (λ n. nat_lt s n) t.rows k.state.unfinished f.0 p.target.rows f.1 in
    let u : Unfinished = w.it in
    let n : f.0.pending.serial ≡ u.serial = ap (λ (x : PendingData). x.serial) w.same in
    let differ : Differ (map (λ (v : Unfinished). v.serial) k.state.unfinished) = rise_differ 0 (map (λ (v : Unfinished). v.serial) k.state.unfinished) k.state.accepted (rows_rise k.state st.sound.serials) in
    let rows : map (λ (x : PendingRow). x.pending.serial) t.rows ≡ map (λ (v : Unfinished). v.serial) k.state.unfinished =
    sym (map-map (λ (x : PendingData). x.serial) (λ (x : PendingRow). x.pending) t.rows) ∙ ap (map (λ (x : PendingData). x.serial)) p.target.rows ∙ map-map (λ (x : PendingData). x.serial) (pending_of k.lists) k.state.unfinished in
    let own : first_of (λ (x : PendingRow). eqb x.pending.serial f.0.pending.serial) t.rows ≡ Some f.0 =
    found_by (is_behind s) (λ (x : PendingRow). x.pending.serial) t.rows f.0 (subst Differ (sym rows) differ) f.1 in
    let id_is : id_of t.rows u.serial ≡ Some id = subst (λ (m : ℕ). id_of t.rows m ≡ Some id) n (ap (option_map (λ (x : PendingRow). x.id)) own ∙ ap Some f.2) in
    let one : HasAlone t.rows id u.serial = subst (λ (m : ℕ). HasAlone t.rows id m) n (subst (λ (i : ℕ). HasAlone t.rows i f.0.pending.serial) f.2 (alone t.rows (is_behind s) f.0 p.ids.differ f.1)) in
    let there : first_of (has_serial u.serial) k.state.unfinished ≡ Some u = found_by (λ (v : Unfinished). nat_lt s v.serial) (λ (v : Unfinished). v.serial) k.state.unfinished u differ w.there in
    let by_id : first_of (λ (x : PendingRow). eqb x.id f.0.id) t.rows ≡ Some f.0 = found_by (is_behind s) (λ (x : PendingRow). x.id) t.rows f.0 p.ids.differ f.1 in
    record {
      it = u;
      there = w.there;
      command = ap (option_map (λ (x : PendingRow). x.pending)) (subst (λ (i : ℕ). first_of (λ (x : PendingRow). eqb x.id i) t.rows ≡ Some f.0) f.2 by_id) ∙ ap Some w.same;
      low = omega (arith, ltb-true s u.serial (first-passes (λ (v : Unfinished). nat_lt s v.serial) k.state.unfinished u w.there));
      told = every-first (λ (v : Unfinished). nat_lt s v.serial) (λ (v : Unfinished). HasLength lengths v.serial (payload_length v.command)) k.state.unfinished u (lengths_told lengths k.state st.sound l) w.there;
      payload = payload_kept r t user hand k.state k.lists u id st there one id_is;
    }

none_id : (o : Option PendingRow) → None ≡ option_map (λ (e : PendingRow). e.id) o → o ≡ None
none_id None e = refl
none_id (Some x) e = absurd (cc)

pub none_held : (r : RegionState) (t : TargetState) (user : UserState) (hand : List InHand) (b : Bool) (most : ℕ) (k : RingDevice) (s : ℕ) → IsRing r t user hand b most k →
    None ≡ option_map (λ (e : PendingRow). e.id) (first_of (is_behind s) t.rows) → first_of (λ (u : Unfinished). nat_lt s u.serial) k.state.unfinished ≡ None
none_held r t user hand b most k s h e = none_paired k.lists (λ n. nat_lt s n) t.rows k.state.unfinished h.stands.represents.target.rows (none_id (first_of (is_behind s) t.rows) e)

-- the command that is pending under the id is the next one, and what is read is what it holds
pub next_shown : (lengths : List ℕ) (r : RegionState) (t : TargetState) (user : UserState) (hand : List InHand) (k : RingDevice) (s id : ℕ) (e : PendingData) (held : HeldData) → NextHeld lengths r t user hand k s id → Some e ≡ command_of t.rows id →
    ((n : ℕ) → HasLength lengths e.serial n → held ≡ held_read r hand user.jobs id e n) → Some held ≡ option_map (shown_command k.lists) (first_of (λ (u : Unfinished). nat_lt s u.serial) k.state.unfinished)
next_shown lengths r t user hand k s id e held h c f =
    let z : Some e ≡ Some (pending_of k.lists h.it) = c ∙ h.command in
    let q : e ≡ pending_of k.lists h.it = cc in
    let g : (n : ℕ) → HasLength lengths h.it.serial n → held ≡ held_read r hand user.jobs id (pending_of k.lists h.it) n =
    subst (λ (x : PendingData). (n : ℕ) → HasLength lengths x.serial n → held ≡ held_read r hand user.jobs id x n) q f in
    ap Some (g (payload_length h.it.command) h.told ∙ ap (λ (bs : List ℕ). record { serial = h.it.serial; blocks = list_of k.lists h.it.serial; payload = bs }) h.payload) ∙ sym (ap (option_map (shown_command k.lists)) h.there)

-- its serial is in the list of lengths
pub next_counted : (lengths : List ℕ) (r : RegionState) (t : TargetState) (user : UserState) (hand : List InHand) (k : RingDevice) (s id : ℕ) (e : PendingData) → NextHeld lengths r t user hand k s id → Some e ≡ command_of t.rows id → (1 ≤ e.serial) × (e.serial ≤ length lengths)
next_counted lengths r t user hand k s id e h c =
    let z : Some e ≡ Some (pending_of k.lists h.it) = c ∙ h.command in
    let q : e ≡ pending_of k.lists h.it = cc in
    let n : e.serial ≡ h.it.serial = ap (λ (x : PendingData). x.serial) q in
    let w = slice_get_within lengths (h.it.serial - 1) (payload_length h.it.command) h.told in
    (omega (arith, n, h.low), omega (arith, n, h.low, w))

pub never_none : (lengths : List ℕ) (r : RegionState) (t : TargetState) (user : UserState) (hand : List InHand) (k : RingDevice) (s id : ℕ) → NextHeld lengths r t user hand k s id → None ≡ command_of t.rows id → ⊥
never_none lengths r t user hand k s id h c = let z : None ≡ Some (pending_of k.lists h.it) = c ∙ h.command in absurd (cc)
