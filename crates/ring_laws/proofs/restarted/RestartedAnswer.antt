-- How many commands a restart loses: those of the jobs that are not placed, and the answers that are placed and not published.
use Rattle.std.proofs.Common.{◌≡◌, ℕ, ◌+◌, ◌-◌, ◌≤◌, ◌||◌, Bool, true, false, cond, List, [], ◌∷◌, ◌++◌, length, drop, map, filter, refl, sym, ap, ◌∙◌, arith, suc, subst, ⊎_elim}
use Rattle.std.specs.List.{list_any, count_by}
use Rattle.std.specs.Option.{is_some}
use Rattle.std.proofs.lemmas.Bool.{cases_Bool, false≢true, or_parts}
use Rattle.std.proofs.lemmas.List.{take-append-drop, drop-drop, length-drop}
use Rattle.std.proofs.lemmas.List.Sums.{sum_by-cons, length-filter}
use Rattle.tcmu_types.specs.Data.{SettingsData}
use Rattle.tcmu_model.specs.declared.state.CommandState.{CommandState}
use Rattle.tcmu_model.specs.declared.state.CommandState.TheVariants.{Waiting, Out, Handled, Parked, Placed, Lost}
use Rattle.tcmu_model.specs.RingState.{published_commands, cleared_commands}
use Rattle.tcmu_model.specs.Device.{Unfinished, DeviceState, has_serial, has_state}
use Rattle.tcmu_model.specs.Events.{is_in_hand, is_losing, answered, count_in_hand, restart_answer}
use Rattle.tcmu_types.specs.Numbers.{is_among, Differ}
use Rattle.tcmu_model.specs.Sound.{IsSound, is_right, state_fits, dispatched_serials}
use Rattle.tcmu_types.specs.Lists.{Every}
use Rattle.tcmu_model.specs.BlockLists.{Taken}
use Rattle.tcmu_model.proofs.Basics.{cleared_published, rows_rise}
use Rattle.tcmu_types.proofs.Everies.{every-weaker, every-both, every-drop}
use Rattle.tcmu_types.proofs.Rises.{among-append, count_differ}
use Rattle.tcmu_model.proofs.Standing.{answered_rows, any_among, placed_there}
use Rattle.region_model.specs.Sides.{GivenJob, InHand, PendingRow, UserState}
use Rattle.region_model.specs.Represents.{AreGiven, AreOut, JobsStand, UserKeeps, is_out}
use Rattle.ring_laws.specs.Restarted.{count_jobs, count_parked, restarted_answer}
use Rattle.tcmu_types.proofs.Rises.{differ-right}
use Rattle.ring_laws.proofs.restarted.GivenBack.{split-left}
use Rattle.ring_laws.proofs.restarted.JobsBack.{parked_among}
use Rattle.ring_laws.proofs.Matched.{matched, unmatched}

-- ==== counting

-- a test counts as much as two others together, of which just one holds where it holds
pub count_plus : {X : Type 0} (p q r : X → Bool) (xs : List X) → Every (λ x. cond {A = ℕ} (p x) 1 0 ≡ cond {A = ℕ} (q x) 1 0 + cond {A = ℕ} (r x) 1 0) xs → count_by p xs ≡ count_by q xs + count_by r xs
count_plus p q r [] e = refl
count_plus p q r (x ∷ xs) e =
    let a : count_by p (x ∷ xs) ≡ cond (p x) 1 0 + count_by p xs = sum_by-cons (λ y. cond {A = ℕ} (p y) 1 0) x xs in
    let b : count_by q (x ∷ xs) ≡ cond (q x) 1 0 + count_by q xs = sum_by-cons (λ y. cond {A = ℕ} (q y) 1 0) x xs in
    let c : count_by r (x ∷ xs) ≡ cond (r x) 1 0 + count_by r xs = sum_by-cons (λ y. cond {A = ℕ} (r y) 1 0) x xs in
    omega (arith, a, b, c, e.0, count_plus p q r xs e.1)

pub count_none : {X : Type 0} (p : X → Bool) (xs : List X) → Every (λ x. p x ≡ false) xs → count_by p xs ≡ 0
count_none p [] e = refl
count_none p (x ∷ xs) e =
    let a : count_by p (x ∷ xs) ≡ cond (p x) 1 0 + count_by p xs = sum_by-cons (λ y. cond {A = ℕ} (p y) 1 0) x xs in
    let b : ◌≡◌ {A = ℕ} (cond (p x) 1 0) 0 = ap (λ z. cond z 1 0) e.0 in
    omega (arith, a, b, count_none p xs e.1)

pub count_mapped : {X Y : Type 0} (f : X → Y) (p : Y → Bool) (xs : List X) → count_by p (map f xs) ≡ count_by (λ x. p (f x)) xs
count_mapped f p [] = refl
count_mapped f p (x ∷ xs) =
    let a : count_by p (map f (x ∷ xs)) ≡ cond (p (f x)) 1 0 + count_by p (map f xs) = sum_by-cons (λ y. cond {A = ℕ} (p y) 1 0) (f x) (map f xs) in
    let b : count_by (λ y. p (f y)) (x ∷ xs) ≡ cond (p (f x)) 1 0 + count_by (λ y. p (f y)) xs = sum_by-cons (λ y. cond {A = ℕ} (p (f y)) 1 0) x xs in
    omega (arith, a, b, count_mapped f p xs)

-- ==== the jobs that are not placed

out_length : (s : SettingsData) (rows : List PendingRow) (lists : List Taken) (hs : List InHand) (us : List Unfinished) → AreOut s rows lists hs us → length hs ≡ length us
out_length s rows lists [] [] a = refl
out_length s rows lists [] (u ∷ us) a = absurd a
out_length s rows lists (h ∷ hs) [] a = absurd a
out_length s rows lists (h ∷ hs) (u ∷ us) a = ap suc (out_length s rows lists hs us a.1)

parked_count : (s : SettingsData) (rows : List PendingRow) (lists : List Taken) (gs : List GivenJob) (us : List Unfinished) → AreGiven s rows lists gs us → count_parked gs ≡ count_by (has_state Parked) us
parked_count s rows lists [] [] a = refl
parked_count s rows lists [] (u ∷ us) a = absurd a
parked_count s rows lists (g ∷ gs) [] a = absurd a
parked_count s rows lists (g ∷ gs) (u ∷ us) a =
    let e : is_some g.parked ≡ has_state Parked u = ⊎_elim
    (λ (k : has_state Parked u ≡ true). let m = matched (has_state Parked u) _ _ k a.0.1 in ap is_some m.1 ∙ sym k)
    (λ (k : has_state Parked u ≡ false). let n = unmatched (has_state Parked u) _ _ k a.0.1 in ap is_some n ∙ sym k)
    (cases_Bool (has_state Parked u)) in
    let f : count_parked (g ∷ gs) ≡ cond (is_some g.parked) 1 0 + count_parked gs = sum_by-cons (λ (y : GivenJob). cond {A = ℕ} (is_some y.parked) 1 0) g gs in
    let b : count_by (has_state Parked) (u ∷ us) ≡ cond (has_state Parked u) 1 0 + count_by (has_state Parked) us = sum_by-cons (λ (y : Unfinished). cond {A = ℕ} (has_state Parked y) 1 0) u us in
    let c : cond {A = ℕ} (is_some g.parked) 1 0 ≡ cond (has_state Parked u) 1 0 = ap (λ z. cond {A = ℕ} z 1 0) e in
    omega (arith, f, b, c, parked_count s rows lists gs us a.1)

out_or_parked : (us : List Unfinished) → count_by is_in_hand us ≡ count_by is_out us + count_by (has_state Parked) us
out_or_parked us = count_plus is_in_hand is_out (has_state Parked) us (all us)
  where
    one : (u : Unfinished) (t : CommandState) → u.state ≡ t → cond {A = ℕ} (is_in_hand u) 1 0 ≡ cond {A = ℕ} (is_out u) 1 0 + cond {A = ℕ} (has_state Parked u) 1 0
    one u Waiting e = rw e refl
    one u Out e = rw e refl
    one u Handled e = rw e refl
    one u Parked e = rw e refl
    one u Placed e = rw e refl
    one u Lost e = rw e refl

    all : (us : List Unfinished) → Every (λ (u : Unfinished). cond {A = ℕ} (is_in_hand u) 1 0 ≡ cond {A = ℕ} (is_out u) 1 0 + cond {A = ℕ} (has_state Parked u) 1 0) us
    all [] = tt
    all (u ∷ us) = (one u u.state refl, all us)

-- the user side has as many jobs with a reply as commands are parked
pub parked_total : (user : UserState) (hand : List InHand) (rows : List PendingRow) (d : DeviceState) (lists : List Taken) → JobsStand user hand rows d lists → count_parked user.jobs ≡ count_by (has_state Parked) d.unfinished
parked_total user hand rows d lists h =
    let us : List Unfinished = d.unfinished in
    parked_count d.settings rows lists user.jobs (filter is_in_hand us) h.given
    ∙ sym (length-filter (has_state Parked) (filter is_in_hand us)) ∙ ap length (parked_among us) ∙ length-filter (has_state Parked) us

-- both sides have as many jobs as commands are in hand
pub jobs_counted : (user : UserState) (hand : List InHand) (rows : List PendingRow) (d : DeviceState) (lists : List Taken) → JobsStand user hand rows d lists → count_jobs hand user ≡ count_in_hand d
jobs_counted user hand rows d lists h =
    let us : List Unfinished = d.unfinished in
    let a : length hand ≡ length (filter is_out us) = out_length d.settings rows lists hand (filter is_out us) h.out in
    let b : length (filter is_out us) ≡ count_by is_out us = length-filter is_out us in
    let c : count_parked user.jobs ≡ count_by (has_state Parked) us = parked_total user hand rows d lists h in
    omega (arith, a, b, c, out_or_parked us)

-- ==== an attached device

-- the answers that are placed and not published
abbrev unpublished : DeviceState → List ℕ
unpublished d = drop (published_commands d.ring) d.placed

never_placed : (a p q r : Bool) → state_fits a false p q Placed r ≡ true → ⊥
never_placed true p q r h = false≢true h
never_placed false p q r h = false≢true h

-- a command is lost that is in hand, or whose answer is placed and not published
loses : (d : DeviceState) (u : Unfinished) → Differ d.placed → is_right d u ≡ true → (is_among d.placed u.serial ≡ true → u.state ≡ Placed) →
    cond {A = ℕ} (is_losing (answered d) u) 1 0 ≡ cond {A = ℕ} (is_in_hand u) 1 0 + cond {A = ℕ} (is_among (unpublished d) u.serial) 1 0
loses d u differ right placed =
    let A : List ℕ = answered d in
    let B : List ℕ = unpublished d in
    let s : ℕ = u.serial in
    let whole : A ++ B ≡ d.placed = take-append-drop (published_commands d.ring) d.placed in
    let split : (is_among A s || is_among B s) ≡ is_among d.placed s = sym (among-append A B s) ∙ ap (λ xs. is_among xs s) whole in
    let apart : Differ (A ++ B) = subst Differ (sym whole) differ in
    ⊎_elim
    (λ (k : is_among d.placed s ≡ true).
    let st : u.state ≡ Placed = placed k in
    ⊎_elim
    (λ (a : is_among A s ≡ true). let b : is_among B s ≡ false = split-left A B s apart a in rw (st, a, b) refl)
    (λ (a : is_among A s ≡ false). let b : is_among B s ≡ true = sym (ap (λ z. z || is_among B s) a) ∙ split ∙ k in rw (st, a, b) refl)
    (cases_Bool (is_among A s)))
    (λ (k : is_among d.placed s ≡ false).
    let ab = or_parts (is_among A s) (is_among B s) (split ∙ k) in
    unplaced u.state refl ab.1 k)
    (cases_Bool (is_among d.placed s))
  where
    unplaced : (t : CommandState) → u.state ≡ t → is_among (unpublished d) u.serial ≡ false → is_among d.placed u.serial ≡ false →
        cond {A = ℕ} (is_losing (answered d) u) 1 0 ≡ cond {A = ℕ} (is_in_hand u) 1 0 + cond {A = ℕ} (is_among (unpublished d) u.serial) 1 0
    unplaced Waiting e b k = rw (e, b) refl
    unplaced Out e b k = rw (e, b) refl
    unplaced Handled e b k = rw (e, b) refl
    unplaced Parked e b k = rw (e, b) refl
    unplaced Placed e b k = absurd (never_placed (is_among (dispatched_serials d.ring) u.serial) (is_among (answered d) u.serial) d.attached (is_some u.reply) (sym (ap (λ t. state_fits (is_among (dispatched_serials d.ring) u.serial) (is_among d.placed u.serial) (is_among (answered d) u.serial) d.attached t (is_some u.reply)) e
        ∙ ap (λ z. state_fits (is_among (dispatched_serials d.ring) u.serial) z (is_among (answered d) u.serial) d.attached Placed (is_some u.reply)) k) ∙ right))
    unplaced Lost e b k = rw (e, b) refl

attached_count : (d : DeviceState) → IsSound d → d.attached ≡ true → restart_answer d ≡ count_in_hand d + (length d.placed - published_commands d.ring)
unfolding restart_answer
attached_count d sound att =
    let us : List Unfinished = d.unfinished in
    let c : ℕ = cleared_commands d.ring in
    let p : ℕ = published_commands d.ring in
    let B : List ℕ = unpublished d in
    let cp : c ≤ p = cleared_published d sound.ring in
    let placed : Every (λ (u : Unfinished). is_among d.placed u.serial ≡ true → u.state ≡ Placed) us =
    every-weaker (λ u. is_among d.placed u.serial ≡ true → (u.state ≡ cond (d.attached || is_among (answered d) u.serial) Placed Lost) × _) (λ (u : Unfinished). is_among d.placed u.serial ≡ true → u.state ≡ Placed) us
    (λ u f m. (f m).0 ∙ ap (λ z. cond (z || is_among (answered d) u.serial) Placed Lost) att) (answered_rows d sound) in
    let rows : Every (λ (u : Unfinished). cond {A = ℕ} (is_losing (answered d) u) 1 0 ≡ cond {A = ℕ} (is_in_hand u) 1 0 + cond {A = ℕ} (is_among B u.serial) 1 0) us =
    every-weaker (λ (u : Unfinished). (is_right d u ≡ true) × (is_among d.placed u.serial ≡ true → u.state ≡ Placed)) _ us (λ u f. loses d u sound.answers.differ f.0 f.1) (every-both _ _ us sound.answers.states placed) in
    let sum : count_by (is_losing (answered d)) us ≡ count_by is_in_hand us + count_by (λ (u : Unfinished). is_among B u.serial) us = count_plus (is_losing (answered d)) is_in_hand (λ (u : Unfinished). is_among B u.serial) us rows in
    let differ : Differ B = differ-right (answered d) B (subst Differ (sym (take-append-drop p d.placed)) sound.answers.differ) in
    let k : c + (p - c) ≡ p = omega arith in
    let there0 : Every (λ s. list_any (has_serial s) us ≡ true) B =
    subst (Every (λ s. list_any (has_serial s) us ≡ true)) (drop-drop (p - c) c d.placed ∙ ap (λ z. drop z d.placed) k) (every-drop (λ s. list_any (has_serial s) us ≡ true) (p - c) (drop c d.placed) (placed_there d sound)) in
    let there : Every (λ s. is_among (map (λ (u : Unfinished). u.serial) us) s ≡ true) B = every-weaker (λ s. list_any (has_serial s) us ≡ true) (λ s. is_among (map (λ (u : Unfinished). u.serial) us) s ≡ true) B (λ s h. sym (any_among s us) ∙ h) there0 in
    let counted : count_by (is_among B) (map (λ (u : Unfinished). u.serial) us) ≡ length B = count_differ 0 (map (λ (u : Unfinished). u.serial) us) d.accepted B (rows_rise d sound.serials) differ there in
    let mapped : count_by (is_among B) (map (λ (u : Unfinished). u.serial) us) ≡ count_by (λ (u : Unfinished). is_among B u.serial) us = count_mapped (λ (u : Unfinished). u.serial) (is_among B) us in
    let long : length B ≡ length d.placed - p = length-drop p d.placed in
    omega (arith, sum, counted, mapped, long)

-- ==== a detached device

no_out : (a b c r : Bool) → state_fits a b c false Out r ≡ true → ⊥
no_out true true c r h = false≢true h
no_out true false c r h = false≢true h
no_out false b c r h = false≢true h

no_handled : (a b c r : Bool) → state_fits a b c false Handled r ≡ true → ⊥
no_handled true true c r h = false≢true h
no_handled true false c r h = false≢true h
no_handled false b c r h = false≢true h

no_parked : (a b c r : Bool) → state_fits a b c false Parked r ≡ true → ⊥
no_parked true true c r h = false≢true h
no_parked true false c r h = false≢true h
no_parked false b c r h = false≢true h

is_published : (a b c r : Bool) → state_fits a b c false Placed r ≡ true → c ≡ true
is_published a b true r h = refl
is_published true true false r h = absurd (false≢true h)
is_published true false false r h = absurd (false≢true h)
is_published false b false r h = absurd (false≢true h)

-- nothing is left to lose
keeps : (d : DeviceState) (u : Unfinished) → d.attached ≡ false → is_right d u ≡ true → is_losing (answered d) u ≡ false
keeps d u att right = by_state u.state refl
  where
    fits : (t : CommandState) → u.state ≡ t → state_fits (is_among (dispatched_serials d.ring) u.serial) (is_among d.placed u.serial) (is_among (answered d) u.serial) false t (is_some u.reply) ≡ true
    fits t e =
        sym (ap (λ z. state_fits (is_among (dispatched_serials d.ring) u.serial) (is_among d.placed u.serial) (is_among (answered d) u.serial) d.attached z (is_some u.reply)) e
        ∙ ap (λ z. state_fits (is_among (dispatched_serials d.ring) u.serial) (is_among d.placed u.serial) (is_among (answered d) u.serial) z t (is_some u.reply)) att) ∙ right

    by_state : (t : CommandState) → u.state ≡ t → is_losing (answered d) u ≡ false
    by_state Waiting e = rw e refl
    by_state Out e = absurd (no_out (is_among (dispatched_serials d.ring) u.serial) (is_among d.placed u.serial) (is_among (answered d) u.serial) (is_some u.reply) (fits Out e))
    by_state Handled e = absurd (no_handled (is_among (dispatched_serials d.ring) u.serial) (is_among d.placed u.serial) (is_among (answered d) u.serial) (is_some u.reply) (fits Handled e))
    by_state Parked e = absurd (no_parked (is_among (dispatched_serials d.ring) u.serial) (is_among d.placed u.serial) (is_among (answered d) u.serial) (is_some u.reply) (fits Parked e))
    by_state Placed e = let p : is_among (answered d) u.serial ≡ true = is_published (is_among (dispatched_serials d.ring) u.serial) (is_among d.placed u.serial) (is_among (answered d) u.serial) (is_some u.reply) (fits Placed e) in rw (e, p) refl
    by_state Lost e = rw e refl

detached_count : (d : DeviceState) → IsSound d → d.attached ≡ false → restart_answer d ≡ 0
unfolding restart_answer
detached_count d sound att =
    count_none (is_losing (answered d)) d.unfinished (every-weaker (λ (u : Unfinished). is_right d u ≡ true) (λ (u : Unfinished). is_losing (answered d) u ≡ false) d.unfinished (λ u h. keeps d u att h) sound.answers.states)

-- ==== the answer

pub answer_restarted : (user : UserState) (hand : List InHand) (rows : List PendingRow) (d : DeviceState) (lists : List Taken) → IsSound d → JobsStand user hand rows d lists → UserKeeps user d →
    restarted_answer d.attached hand user ≡ restart_answer d
unfolding restarted_answer
answer_restarted user hand rows d lists sound jobs keep =
    let n : ℕ = count_jobs hand user + (user.placed - user.published) in
    ⊎_elim
    (λ (att : d.attached ≡ true).
    let a : count_jobs hand user ≡ count_in_hand d = jobs_counted user hand rows d lists jobs in
    let b : user.placed ≡ length d.placed = keep.placed in
    let c : user.published ≡ published_commands d.ring = keep.published in
    let e : restart_answer d ≡ count_in_hand d + (length d.placed - published_commands d.ring) = attached_count d sound att in
    ap (λ z. cond z n 0) att ∙ (let q : n ≡ restart_answer d = omega (arith, a, b, c, e) in q))
    (λ (att : d.attached ≡ false). ap (λ z. cond z n 0) att ∙ sym (detached_count d sound att))
    (cases_Bool d.attached)
