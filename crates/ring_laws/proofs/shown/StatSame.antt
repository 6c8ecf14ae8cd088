-- The numbers that both sides and the jobs in hand show are the device's.
use Rattle.std.proofs.Common.{◌≡◌, ℕ, ◌+◌, ◌-◌, ◌≤◌, ◌&&◌, ◌||◌, Bool, true, false, not, cond, List, [], ◌∷◌, ◌++◌, length, take, drop, map, filter, refl, sym, ap, ◌∙◌, arith, length-append, subst, ⊎_elim}
use Rattle.std.specs.List.{count_by, list_any}
use Rattle.std.specs.Option.{is_some}
use Rattle.std.proofs.lemmas.Bool.{cases_Bool, false≢true, or_right}
use Rattle.std.proofs.lemmas.List.{drop-take, length-drop, length-take-le, take-append-drop, take-take, take_all}
use Rattle.std.proofs.lemmas.List.Sums.{sum_by-cons}
use Rattle.tcmu_types.specs.Data.{SettingsData}
use Rattle.tcmu_types.specs.Lists.{Every}
use Rattle.tcmu_types.specs.Numbers.{Differ, is_among}
use Rattle.tcmu_types.specs.declared.stat.Stat.{Stat}
use Rattle.tcmu_types.proofs.Everies.{every-all, every-both, every-filter, every-mapped, every-passes, every-take, every-weaker}
use Rattle.tcmu_types.proofs.Rises.{among-all, among-append, among-filter, among_every, count_differ, differ-take, every-among, rise_differ}
use Rattle.tcmu_model.specs.declared.state.CommandState.{CommandState}
use Rattle.tcmu_model.specs.declared.state.CommandState.TheVariants.{Handled, Lost, Out, Parked, Placed, Waiting}
use Rattle.tcmu_model.specs.BlockLists.{Taken}
use Rattle.tcmu_model.specs.Device.{DeviceState, Unfinished, has_serial, has_state}
use Rattle.tcmu_model.specs.Events.{answered, stat_answer}
use Rattle.tcmu_model.specs.Owned.{ListsSound}
use Rattle.tcmu_model.specs.RingState.{Item, cleared_commands, commands_in, dispatched_commands, published_commands, serials_in}
use Rattle.tcmu_model.specs.Sound.{IsSound, dispatched_serials, finished, is_right, state_fits}
use Rattle.tcmu_model.specs.States.{same_state}
use Rattle.tcmu_model.proofs.Basics.{cleared_published, commands_serials, laid_rise, rows_rise, serials_split}
use Rattle.tcmu_model.proofs.Fronts.{commands_more}
use Rattle.tcmu_model.proofs.Facts.{count_rows, placed_dispatched, waits_or}
use Rattle.tcmu_model.proofs.Standing.{any_among, placed_there}
use Rattle.region_model.specs.Pending.{PendingData}
use Rattle.region_model.specs.Represents.{AreOut, JobsStand, RingStands, TargetKeeps, UserKeeps, is_out, pending_of}
use Rattle.region_model.specs.Sides.{InHand, PendingRow, TargetState, UserState}
use Rattle.ring_laws.specs.SidesShow.{stat_on}
use Rattle.ring_laws.proofs.Agree.{Agrees, agrees, held-same}
use Rattle.ring_laws.proofs.placed.AnswerBlocks.{differ-split}
use Rattle.tcmu_types.proofs.Rises.{differ-right}
use Rattle.ring_laws.proofs.restarted.GivenBack.{split-left}
use Rattle.ring_laws.proofs.jobs_in_hand.HandTells.{Tells, handled_tells, out_tells}
use Rattle.ring_laws.proofs.restarted.RestartedAnswer.{count_mapped, count_none, count_plus, parked_total}
use Rattle.tcmu_model.proofs.ListsLaid.{held_length}

-- ==== jobs in hand

-- there are as many jobs that are owed this as commands in this state
count_same : (st : SettingsData) (rows : List PendingRow) (lists : List Taken) (t : CommandState) (f : Bool → Bool) (hs : List InHand) (us : List Unfinished) → Tells t f us → AreOut st rows lists hs (filter is_out us) →
    count_by (λ (h : InHand). f (is_some h.reply)) hs ≡ count_by (has_state t) us
count_same st rows lists t f [] [] e h = refl
count_same st rows lists t f (x ∷ hs) [] e h = absurd h
count_same st rows lists t f [] (u ∷ us) e h =
    let sum : count_by (has_state t) (u ∷ us) ≡ cond (has_state t u) 1 0 + count_by (has_state t) us = sum_by-cons (λ (v : Unfinished). cond {A = ℕ} (has_state t v) 1 0) u us in
    ⊎_elim
    (λ (o : is_out u ≡ true). let h' : AreOut st rows lists [] (u ∷ filter is_out us) = rw o at h in absurd h')
    (λ (o : is_out u ≡ false).
    let h' : AreOut st rows lists [] (filter is_out us) = rw o at h in
    let n : has_state t u ≡ false = e.0 ∙ ap (λ b. b && f (is_some u.reply)) o in
    let z : ◌≡◌ {A = ℕ} (cond (has_state t u) 1 0) 0 = ap (λ b. cond {A = ℕ} b 1 0) n in
    omega (arith, sum, z, count_same st rows lists t f [] us e.1 h'))
    (cases_Bool (is_out u))
count_same st rows lists t f (x ∷ hs) (u ∷ us) e h =
    let sum : count_by (has_state t) (u ∷ us) ≡ cond (has_state t u) 1 0 + count_by (has_state t) us = sum_by-cons (λ (v : Unfinished). cond {A = ℕ} (has_state t v) 1 0) u us in
    let more : count_by (λ (h : InHand). f (is_some h.reply)) (x ∷ hs) ≡ cond (f (is_some x.reply)) 1 0 + count_by (λ (h : InHand). f (is_some h.reply)) hs = sum_by-cons (λ (y : InHand). cond {A = ℕ} (f (is_some y.reply)) 1 0) x hs in
    ⊎_elim
    (λ (o : is_out u ≡ true).
    let h' : AreOut st rows lists (x ∷ hs) (u ∷ filter is_out us) = rw o at h in
    let same : f (is_some x.reply) ≡ has_state t u = ap (λ r. f (is_some r)) h'.0.1 ∙ sym (e.0 ∙ ap (λ b. b && f (is_some u.reply)) o) in
    let one : cond {A = ℕ} (f (is_some x.reply)) 1 0 ≡ cond (has_state t u) 1 0 = ap (λ b. cond {A = ℕ} b 1 0) same in
    omega (arith, sum, more, one, count_same st rows lists t f hs us e.1 h'.1))
    (λ (o : is_out u ≡ false).
    let h' : AreOut st rows lists (x ∷ hs) (filter is_out us) = rw o at h in
    let n : has_state t u ≡ false = e.0 ∙ ap (λ b. b && f (is_some u.reply)) o in
    let z : ◌≡◌ {A = ℕ} (cond (has_state t u) 1 0) 0 = ap (λ b. cond {A = ℕ} b 1 0) n in
    omega (arith, sum, z, count_same st rows lists t f (x ∷ hs) us e.1 h'))
    (cases_Bool (is_out u))

-- ==== one command, by its state

-- on an attached device the answered ones are placed
placed_attached : (a b c : Bool) (t : CommandState) (r : Bool) → (b ≡ true → a ≡ true) → state_fits a b c true t r ≡ true → same_state t Placed ≡ b
placed_attached a true c Waiting r p h = let q : a ≡ true = p refl in absurd (false≢true (sym (ap (λ z. not z && not r) q) ∙ h))
placed_attached a false c Waiting r p h = refl
placed_attached true true c Out r p h = absurd (false≢true h)
placed_attached true false c Out r p h = refl
placed_attached false b c Out r p h = absurd (false≢true h)
placed_attached true true c Handled r p h = absurd (false≢true h)
placed_attached true false c Handled r p h = refl
placed_attached false b c Handled r p h = absurd (false≢true h)
placed_attached true true c Parked r p h = absurd (false≢true h)
placed_attached true false c Parked r p h = refl
placed_attached false b c Parked r p h = absurd (false≢true h)
placed_attached a true c Placed r p h = refl
placed_attached true false c Placed r p h = absurd (false≢true h)
placed_attached false false c Placed r p h = absurd (false≢true h)
placed_attached true b c Lost r p h = absurd (false≢true h)
placed_attached false b c Lost r p h = absurd (false≢true h)

lost_attached : (a b c : Bool) (t : CommandState) (r : Bool) → state_fits a b c true t r ≡ true → same_state t Lost ≡ false
lost_attached a b c Waiting r h = refl
lost_attached a b c Out r h = refl
lost_attached a b c Handled r h = refl
lost_attached a b c Parked r h = refl
lost_attached a b c Placed r h = refl
lost_attached true b c Lost r h = absurd (false≢true h)
lost_attached false b c Lost r h = absurd (false≢true h)

-- on a detached one those whose answers are published
placed_detached : (a b c : Bool) (t : CommandState) (r : Bool) → (c ≡ true → a ≡ true) → state_fits a b c false t r ≡ true → same_state t Placed ≡ c
placed_detached a b true Waiting r p h = let q : a ≡ true = p refl in absurd (false≢true (sym (ap (λ z. not z && not r) q) ∙ h))
placed_detached a b false Waiting r p h = refl
placed_detached true true c Out r p h = absurd (false≢true h)
placed_detached true false c Out r p h = absurd (false≢true h)
placed_detached false b c Out r p h = absurd (false≢true h)
placed_detached true true c Handled r p h = absurd (false≢true h)
placed_detached true false c Handled r p h = absurd (false≢true h)
placed_detached false b c Handled r p h = absurd (false≢true h)
placed_detached true true c Parked r p h = absurd (false≢true h)
placed_detached true false c Parked r p h = absurd (false≢true h)
placed_detached false b c Parked r p h = absurd (false≢true h)
placed_detached a b true Placed r p h = refl
placed_detached true true false Placed r p h = absurd (false≢true h)
placed_detached true false false Placed r p h = absurd (false≢true h)
placed_detached false b false Placed r p h = absurd (false≢true h)
placed_detached true b true Lost r p h = absurd (false≢true h)
placed_detached false b true Lost r p h = absurd (false≢true h)
placed_detached a b false Lost r p h = refl

-- there each waits, is placed, or is lost
lost_detached : (a b c : Bool) (t : CommandState) (r : Bool) → state_fits a b c false t r ≡ true → not (same_state t Waiting) ≡ (same_state t Placed || same_state t Lost)
lost_detached a b c Waiting r h = refl
lost_detached true true c Out r h = absurd (false≢true h)
lost_detached true false c Out r h = absurd (false≢true h)
lost_detached false b c Out r h = absurd (false≢true h)
lost_detached true true c Handled r h = absurd (false≢true h)
lost_detached true false c Handled r h = absurd (false≢true h)
lost_detached false b c Handled r h = absurd (false≢true h)
lost_detached true true c Parked r h = absurd (false≢true h)
lost_detached true false c Parked r h = absurd (false≢true h)
lost_detached false b c Parked r h = absurd (false≢true h)
lost_detached a b c Placed r h = refl
lost_detached a b c Lost r h = refl

-- ==== all commands, by their states

count_tests : {X : Type 0} (p q : X → Bool) (xs : List X) → Every (λ x. p x ≡ q x) xs → count_by p xs ≡ count_by q xs
count_tests p q [] e = refl
count_tests p q (x ∷ xs) e =
    sum_by-cons (λ y. cond {A = ℕ} (p y) 1 0) x xs ∙ ap (λ b. cond {A = ℕ} b 1 0 + count_by p xs) e.0 ∙ ap (λ n. cond {A = ℕ} (q x) 1 0 + n) (count_tests p q xs e.1)
    ∙ sym (sum_by-cons (λ y. cond {A = ℕ} (q y) 1 0) x xs)

count_all : {X : Type 0} (xs : List X) → count_by (λ (x : X). true) xs ≡ length xs
count_all {X} [] = refl
count_all {X} (x ∷ xs) = let sum : count_by (λ (y : X). true) (x ∷ xs) ≡ 1 + count_by (λ (y : X). true) xs = sum_by-cons (λ (y : X). cond {A = ℕ} true 1 0) x xs in omega (arith, sum, count_all xs)

-- of the commands that are not finished, those of a list of serials that are all among them
counted_among : (d : DeviceState) (ss : List ℕ) → IsSound d → Differ ss → Every (λ s. list_any (has_serial s) d.unfinished ≡ true) ss → count_by (λ (u : Unfinished). is_among ss u.serial) d.unfinished ≡ length ss
counted_among d ss sound differ there =
    let us : List Unfinished = d.unfinished in
    let among : Every (λ s. is_among (map (λ (u : Unfinished). u.serial) us) s ≡ true) ss = every-weaker (λ s. list_any (has_serial s) us ≡ true) (λ s. is_among (map (λ (u : Unfinished). u.serial) us) s ≡ true) ss (λ s h. sym (any_among s us) ∙ h) there in
    sym (count_mapped (λ (u : Unfinished). u.serial) (is_among ss) us) ∙ count_differ 0 (map (λ (u : Unfinished). u.serial) us) d.accepted ss (rows_rise d sound.serials) differ among

-- no unfinished command is among those that are finished
unfinished_rows : (d : DeviceState) → IsSound d → Every (λ (u : Unfinished). is_among (finished d) u.serial ≡ false) d.unfinished
unfinished_rows d sound =
    every-weaker (λ (u : Unfinished). not (is_among (finished d) u.serial) ≡ true) (λ (u : Unfinished). is_among (finished d) u.serial ≡ false) d.unfinished (λ u h. turned (is_among (finished d) u.serial) h)
    (every-mapped (λ (u : Unfinished). u.serial) (λ s. not (is_among (finished d) s) ≡ true) d.unfinished
    (subst (Every (λ s. not (is_among (finished d) s) ≡ true)) (sym sound.serials.order) (every-passes (λ s. not (is_among (finished d) s)) (serials_in d.ring.laid))))
  where
    turned : (b : Bool) → not b ≡ true → b ≡ false
    turned true h = absurd (false≢true h)
    turned false h = refl

-- each is laid
laid_rows : (d : DeviceState) → IsSound d → Every (λ (u : Unfinished). is_among (serials_in d.ring.laid) u.serial ≡ true) d.unfinished
laid_rows d sound =
    every-mapped (λ (u : Unfinished). u.serial) (λ s. is_among (serials_in d.ring.laid) s ≡ true) d.unfinished
    (subst (Every (λ s. is_among (serials_in d.ring.laid) s ≡ true)) (sym sound.serials.order)
    (every-filter (λ s. not (is_among (finished d) s)) (λ s. is_among (serials_in d.ring.laid) s ≡ true) (serials_in d.ring.laid) (every-among (serials_in d.ring.laid))))

unfinished_there : (d : DeviceState) (s : ℕ) → IsSound d → is_among (finished d) s ≡ false → is_among (serials_in d.ring.laid) s ≡ true → list_any (has_serial s) d.unfinished ≡ true
unfinished_there d s sound out laid =
    any_among s d.unfinished ∙ ap (λ xs. is_among xs s) sound.serials.order ∙ among-filter (λ k. not (is_among (finished d) k)) (serials_in d.ring.laid) s
    ∙ ap (λ b. not b && is_among (serials_in d.ring.laid) s) out ∙ laid

-- behind the finished ones of a front of the answers
behind_finished : (F B A : List ℕ) (s : ℕ) → F ++ B ≡ A → is_among F s ≡ false → is_among A s ≡ is_among B s
behind_finished F B A s e h = sym (ap (λ xs. is_among xs s) e) ∙ among-append F B s ∙ ap (λ b. b || is_among B s) h

placed_count : (d : DeviceState) → IsSound d → count_by (λ (u : Unfinished). is_among d.placed u.serial) d.unfinished ≡ length d.placed - cleared_commands d.ring
placed_count d sound =
    let c : ℕ = cleared_commands d.ring in
    let B : List ℕ = drop c d.placed in
    let whole : take c d.placed ++ B ≡ d.placed = take-append-drop c d.placed in
    let differ : Differ B = differ-right (take c d.placed) B (subst Differ (sym whole) sound.answers.differ) in
    count_tests (λ (u : Unfinished). is_among d.placed u.serial) (λ (u : Unfinished). is_among B u.serial) d.unfinished
    (every-weaker (λ (u : Unfinished). is_among (finished d) u.serial ≡ false) (λ (u : Unfinished). is_among d.placed u.serial ≡ is_among B u.serial) d.unfinished
    (λ u h. behind_finished (take c d.placed) B d.placed u.serial whole h) (unfinished_rows d sound))
    ∙ counted_among d B sound differ (placed_there d sound)
    ∙ length-drop c d.placed

answered_count : (d : DeviceState) → IsSound d → count_by (λ (u : Unfinished). is_among (answered d) u.serial) d.unfinished ≡ published_commands d.ring - cleared_commands d.ring
answered_count d sound =
    let c : ℕ = cleared_commands d.ring in
    let p : ℕ = published_commands d.ring in
    let A : List ℕ = answered d in
    let B : List ℕ = drop c A in
    let most : c ≤ p = cleared_published d sound.ring in
    let sum : p ≡ c + (p - c) = omega arith in
    let front : take c A ≡ take c d.placed = take-take c p d.placed most in
    let rest : B ≡ take (p - c) (drop c d.placed) = ap (λ n. drop c (take n d.placed)) sum ∙ drop-take c (p - c) d.placed in
    let whole : take c d.placed ++ B ≡ A = ap (λ xs. xs ++ B) (sym front) ∙ take-append-drop c A in
    let differ : Differ B = differ-right (take c d.placed) B (subst Differ (sym whole) (differ-take p d.placed sound.answers.differ)) in
    let there : Every (λ s. list_any (has_serial s) d.unfinished ≡ true) B =
    subst (Every (λ s. list_any (has_serial s) d.unfinished ≡ true)) (sym rest) (every-take (λ s. list_any (has_serial s) d.unfinished ≡ true) (p - c) (drop c d.placed) (placed_there d sound)) in
    let long : length A ≡ p = length-take-le p d.placed sound.answers.published in
    count_tests (λ (u : Unfinished). is_among A u.serial) (λ (u : Unfinished). is_among B u.serial) d.unfinished
    (every-weaker (λ (u : Unfinished). is_among (finished d) u.serial ≡ false) (λ (u : Unfinished). is_among A u.serial ≡ is_among B u.serial) d.unfinished
    (λ u h. behind_finished (take c d.placed) B A u.serial whole h) (unfinished_rows d sound))
    ∙ counted_among d B sound differ there
    ∙ length-drop c A ∙ ap (λ n. n - c) long

-- those that wait are those that are laid and not dispatched
waiting_count : (d : DeviceState) → IsSound d → count_by (has_state Waiting) d.unfinished ≡ commands_in d.ring.laid - dispatched_commands d.ring
waiting_count d sound =
    let us : List Unfinished = d.unfinished in
    let L : List ℕ = serials_in d.ring.laid in
    let F : List ℕ = finished d in
    let D : List ℕ = dispatched_serials d.ring in
    let W : List ℕ = serials_in (drop d.ring.dispatched d.ring.laid) in
    let whole : D ++ W ≡ L = serials_split d.ring.dispatched d.ring.laid in
    let differ : Differ (D ++ W) = subst Differ (sym whole) (rise_differ 0 L d.accepted (laid_rise d sound.serials)) in
    let rows : Every (λ (u : Unfinished). has_state Waiting u ≡ is_among W u.serial) us =
    every-weaker (λ (u : Unfinished). (is_right d u ≡ true) × (is_among L u.serial ≡ true)) (λ (u : Unfinished). has_state Waiting u ≡ is_among W u.serial) us
    (λ u h. in_one D W L u.serial (has_state Waiting u) whole differ (waits_or (is_among D u.serial) (is_among d.placed u.serial) (is_among (answered d) u.serial) d.attached u.state (is_some u.reply) h.0) h.1)
    (every-both (λ (u : Unfinished). is_right d u ≡ true) (λ (u : Unfinished). is_among L u.serial ≡ true) us sound.answers.states (laid_rows d sound)) in
    let there : Every (λ s. list_any (has_serial s) us ≡ true) W =
    every-weaker (λ s. is_among W s ≡ true) (λ s. list_any (has_serial s) us ≡ true) W (λ s h. unfinished_there d s sound (not_finished D F s (every-take (λ x. is_among D x ≡ true) (cleared_commands d.ring) d.placed sound.answers.dispatched) (differ-split D W s differ h)) (sym (ap (λ xs. is_among xs s) whole) ∙ among-append D W s ∙ or_right (is_among D s) (is_among W s) h)) (every-among W) in
    let counted : count_by (has_state Waiting) us ≡ length W = count_tests (has_state Waiting) (λ (u : Unfinished). is_among W u.serial) us rows ∙ counted_among d W sound (differ-right D W differ) there in
    let long : length D + length W ≡ length L = sym (length-append D W) ∙ ap length whole in
    omega (arith, counted, long, commands_serials d.ring.laid, commands_serials (take d.ring.dispatched d.ring.laid))
  where
    in_one : (D W L : List ℕ) (s : ℕ) (w : Bool) → D ++ W ≡ L → Differ (D ++ W) → w ≡ not (is_among D s) → is_among L s ≡ true → w ≡ is_among W s
    in_one D W L s w whole differ waits laid =
        let both : (is_among D s || is_among W s) ≡ true = sym (among-append D W s) ∙ ap (λ xs. is_among xs s) whole ∙ laid in
        ⊎_elim
        (λ (k : is_among D s ≡ true). waits ∙ ap not k ∙ sym (split-left D W s differ k))
        (λ (k : is_among D s ≡ false). waits ∙ ap not k ∙ sym (sym (ap (λ b. b || is_among W s) k) ∙ both))
        (cases_Bool (is_among D s))

    not_finished : (D F : List ℕ) (s : ℕ) → Every (λ x. is_among D x ≡ true) F → is_among D s ≡ false → is_among F s ≡ false
    not_finished D F s inside out =
        ⊎_elim
        (λ (k : is_among F s ≡ true). absurd (false≢true (sym out ∙ among_every (λ x. is_among D x ≡ true) F s inside k)))
        (λ (k : is_among F s ≡ false). k)
        (cases_Bool (is_among F s))

placed_dispatch : (d : DeviceState) (s : ℕ) → IsSound d → is_among d.placed s ≡ true → is_among (dispatched_serials d.ring) s ≡ true
placed_dispatch d s sound p = among_every (λ x. is_among (dispatched_serials d.ring) x ≡ true) d.placed s sound.answers.dispatched p

right_at : (d : DeviceState) (u : Unfinished) (b : Bool) → d.attached ≡ b → is_right d u ≡ true →
    state_fits (is_among (dispatched_serials d.ring) u.serial) (is_among d.placed u.serial) (is_among (answered d) u.serial) b u.state (is_some u.reply) ≡ true
right_at d u b e h = sym (ap (λ z. state_fits (is_among (dispatched_serials d.ring) u.serial) (is_among d.placed u.serial) (is_among (answered d) u.serial) z u.state (is_some u.reply)) e) ∙ h

placed_total_attached : (d : DeviceState) → IsSound d → d.attached ≡ true → count_by (has_state Placed) d.unfinished ≡ length d.placed - cleared_commands d.ring
placed_total_attached d sound att =
    count_tests (has_state Placed) (λ (u : Unfinished). is_among d.placed u.serial) d.unfinished
    (every-weaker (λ (u : Unfinished). is_right d u ≡ true) (λ (u : Unfinished). has_state Placed u ≡ is_among d.placed u.serial) d.unfinished
    (λ u h. placed_attached (is_among (dispatched_serials d.ring) u.serial) (is_among d.placed u.serial) (is_among (answered d) u.serial) u.state (is_some u.reply) (placed_dispatch d u.serial sound) (right_at d u true att h)) sound.answers.states)
    ∙ placed_count d sound

lost_none : (d : DeviceState) → IsSound d → d.attached ≡ true → count_by (has_state Lost) d.unfinished ≡ 0
lost_none d sound att =
    count_none (has_state Lost) d.unfinished
    (every-weaker (λ (u : Unfinished). is_right d u ≡ true) (λ (u : Unfinished). has_state Lost u ≡ false) d.unfinished
    (λ u h. lost_attached (is_among (dispatched_serials d.ring) u.serial) (is_among d.placed u.serial) (is_among (answered d) u.serial) u.state (is_some u.reply) (right_at d u true att h)) sound.answers.states)

placed_total_detached : (d : DeviceState) → IsSound d → d.attached ≡ false → count_by (has_state Placed) d.unfinished ≡ published_commands d.ring - cleared_commands d.ring
placed_total_detached d sound att =
    count_tests (has_state Placed) (λ (u : Unfinished). is_among (answered d) u.serial) d.unfinished
    (every-weaker (λ (u : Unfinished). is_right d u ≡ true) (λ (u : Unfinished). has_state Placed u ≡ is_among (answered d) u.serial) d.unfinished
    (λ u h. placed_detached (is_among (dispatched_serials d.ring) u.serial) (is_among d.placed u.serial) (is_among (answered d) u.serial) u.state (is_some u.reply)
    (λ p. placed_dispatch d u.serial sound (among-all (published_commands d.ring) d.placed u.serial p)) (right_at d u false att h)) sound.answers.states)
    ∙ answered_count d sound

-- on a detached device each of the others is lost
lost_count : (d : DeviceState) → IsSound d → d.attached ≡ false → count_by (has_state Lost) d.unfinished ≡ dispatched_commands d.ring - published_commands d.ring
lost_count d sound att =
    let us : List Unfinished = d.unfinished in
    let all : count_by (λ (u : Unfinished). true) us ≡ count_by (has_state Waiting) us + count_by (λ (u : Unfinished). not (has_state Waiting u)) us =
    count_plus (λ (u : Unfinished). true) (has_state Waiting) (λ (u : Unfinished). not (has_state Waiting u)) us (every-all (λ (u : Unfinished). cond {A = ℕ} true 1 0 ≡ cond {A = ℕ} (has_state Waiting u) 1 0 + cond {A = ℕ} (not (has_state Waiting u)) 1 0) us (λ u. one_of (has_state Waiting u))) in
    let others : count_by (λ (u : Unfinished). not (has_state Waiting u)) us ≡ count_by (has_state Placed) us + count_by (has_state Lost) us =
    count_plus (λ (u : Unfinished). not (has_state Waiting u)) (has_state Placed) (has_state Lost) us
    (every-weaker (λ (u : Unfinished). is_right d u ≡ true) _ us
    (λ u h. split u (lost_detached (is_among (dispatched_serials d.ring) u.serial) (is_among d.placed u.serial) (is_among (answered d) u.serial) u.state (is_some u.reply) (right_at d u false att h))) sound.answers.states) in
    let placed = placed_total_detached d sound att in
    omega (arith, all, count_all us, others, placed, waiting_count d sound, count_rows d sound, cleared_published d sound.ring, sound.answers.published, placed_dispatched d sound, commands_more d.ring.dispatched (length d.ring.laid) d.ring.laid sound.ring.dispatched, whole_laid d.ring.laid)
  where
    one_of : (b : Bool) → 1 ≡ cond {A = ℕ} b 1 0 + cond {A = ℕ} (not b) 1 0
    one_of true = refl
    one_of false = refl

    split : (u : Unfinished) → not (has_state Waiting u) ≡ (has_state Placed u || has_state Lost u) → cond {A = ℕ} (not (has_state Waiting u)) 1 0 ≡ cond {A = ℕ} (has_state Placed u) 1 0 + cond {A = ℕ} (has_state Lost u) 1 0
    split u h = ap (λ b. cond {A = ℕ} b 1 0) h ∙ by_state u.state refl
      where
        by_state : (t : CommandState) → u.state ≡ t → cond {A = ℕ} (has_state Placed u || has_state Lost u) 1 0 ≡ cond {A = ℕ} (has_state Placed u) 1 0 + cond {A = ℕ} (has_state Lost u) 1 0
        by_state Waiting e = rw e refl
        by_state Out e = rw e refl
        by_state Handled e = rw e refl
        by_state Parked e = rw e refl
        by_state Placed e = rw e refl
        by_state Lost e = rw e refl

    whole_laid : (xs : List Item) → commands_in (take (length xs) xs) ≡ commands_in xs
    whole_laid xs = ap commands_in (take_all (length xs) xs (omega arith))

-- ==== the target's own rows

expired_count : (t : TargetState) (d : DeviceState) (lists : List Taken) → TargetKeeps t d lists → count_by (λ (e : PendingRow). e.pending.expired) t.rows ≡ count_by (λ (u : Unfinished). u.expired) d.unfinished
expired_count t d lists keeps =
    sym (count_mapped (λ (e : PendingRow). e.pending) (λ (p : PendingData). p.expired) t.rows)
    ∙ ap (count_by (λ (p : PendingData). p.expired)) keeps.rows
    ∙ count_mapped (pending_of lists) (λ (p : PendingData). p.expired) d.unfinished

-- ==== all of it

placed_shown : (t : TargetState) (user : UserState) (d : DeviceState) (lists : List Taken) → IsSound d → TargetKeeps t d lists → UserKeeps user d → cond d.attached user.placed user.published - t.cleared ≡ count_by (has_state Placed) d.unfinished
placed_shown t user d lists sound keeps side =
    ⊎_elim
    (λ (att : d.attached ≡ true). ap (λ b. cond b user.placed user.published - t.cleared) att ∙ ap (λ n. n - t.cleared) side.placed ∙ ap (λ n. length d.placed - n) keeps.cleared ∙ sym (placed_total_attached d sound att))
    (λ (att : d.attached ≡ false). ap (λ b. cond b user.placed user.published - t.cleared) att ∙ ap (λ n. n - t.cleared) side.published ∙ ap (λ n. published_commands d.ring - n) keeps.cleared ∙ sym (placed_total_detached d sound att))
    (cases_Bool d.attached)

lost_shown : (user : UserState) (d : DeviceState) → IsSound d → UserKeeps user d → cond d.attached 0 (user.dispatched - user.published) ≡ count_by (has_state Lost) d.unfinished
lost_shown user d sound side =
    ⊎_elim
    (λ (att : d.attached ≡ true). ap (λ b. cond b 0 (user.dispatched - user.published)) att ∙ sym (lost_none d sound att))
    (λ (att : d.attached ≡ false). ap (λ b. cond b 0 (user.dispatched - user.published)) att ∙ ap (λ n. n - user.published) side.dispatched ∙ ap (λ n. dispatched_commands d.ring - n) side.published ∙ sym (lost_count d sound att))
    (cases_Bool d.attached)

pub stat_same : (front : List ℕ) (t : TargetState) (user : UserState) (hand : List InHand) (d : DeviceState) (lists : List Taken) →
    IsSound d → ListsSound d lists → RingStands front t.items d lists → JobsStand user hand t.rows d lists → TargetKeeps t d lists → UserKeeps user d → stat_on d.attached t user hand ≡ stat_answer d
unfolding stat_on stat_answer
stat_same front t user hand d lists sound owned ring jobs keeps side =
    let g : Agrees t d = agrees front t d lists ring keeps sound.ring.size in
    let waiting = ap (λ n. n - user.dispatched) keeps.laid ∙ ap (λ n. commands_in d.ring.laid - n) side.dispatched ∙ sym (waiting_count d sound) in
    let out = count_same d.settings t.rows lists Out not hand d.unfinished (out_tells d sound) jobs.out in
    let handled = count_same d.settings t.rows lists Handled (λ b. b) hand d.unfinished (handled_tells d sound) jobs.out in
    let held = ap length (held-same t d lists keeps) ∙ held_length d.settings.pages lists d.unfinished owned.sizes in
    shows keeps.now keeps.blocked g.head g.used waiting out handled (parked_total user hand t.rows d lists jobs) (placed_shown t user d lists sound keeps side) (lost_shown user d sound side)
    (expired_count t d lists keeps) held (ap length keeps.delayed)
  where
    shows : {n n' he he' us us' w w' o o' ha ha' pa pa' pl pl' l l' x x' hd hd' de de' : ℕ} {b b' : Bool} →
        n ≡ n' → b ≡ b' → he ≡ he' → us ≡ us' → w ≡ w' → o ≡ o' → ha ≡ ha' → pa ≡ pa' → pl ≡ pl' → l ≡ l' → x ≡ x' → hd ≡ hd' → de ≡ de' →
        ◌≡◌ {A = Stat}
        (record { now = n; blocked = b; attached = d.attached; head = he; used = us; waiting = w; out = o; handled = ha; parked = pa; placed = pl; lost = l; expired = x; held = hd; delayed = de })
        (record { now = n'; blocked = b'; attached = d.attached; head = he'; used = us'; waiting = w'; out = o'; handled = ha'; parked = pa'; placed = pl'; lost = l'; expired = x'; held = hd'; delayed = de' })
    shows e1 e2 e3 e4 e5 e6 e7 e8 e9 e10 e11 e12 e13 = cc
