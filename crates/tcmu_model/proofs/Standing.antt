-- Where each dispatched command stands: finished, answered, or in hand.
use Rattle.std.proofs.Common.{◌≡◌, ℕ, ◌+◌, Bool, true, false, not, cond, List, [], ◌∷◌, length, take, drop, map, refl, sym, ap, ◌∙◌, arith, ⊎_elim, ◌||◌, ◌&&◌, eqb, if◌then◌else◌, suc, zero}
use Rattle.std.specs.List.{list_any, filter, count_by}
use Rattle.std.specs.Option.{is_some}
use Rattle.std.proofs.lemmas.Bool.{cases_Bool, false≢true, or_parts, eqb-false, ne_eqb}
use Rattle.std.proofs.lemmas.List.Sums.{sum_by-cons}
use Rattle.tcmu_model.specs.declared.state.CommandState.{CommandState}
use Rattle.tcmu_model.specs.declared.state.CommandState.TheVariants.{Waiting, Out, Handled, Parked, Placed, Lost}
use Rattle.tcmu_model.specs.States.{same_state}
use Rattle.tcmu_model.specs.RingState.{serials_in, cleared_commands, dispatched_commands}
use Rattle.tcmu_model.specs.Device.{Unfinished, DeviceState, has_state, has_serial}
use Rattle.tcmu_model.specs.Events.{answered, is_in_hand}
use Rattle.tcmu_types.specs.Numbers.{is_among, Rise, Differ}
use Rattle.tcmu_model.specs.Sound.{finished, dispatched_serials, state_fits, is_right, awaits_answer, SerialsSound, IsSound}
use Rattle.tcmu_types.specs.Lists.{Every}
use Rattle.tcmu_types.proofs.Everies.{every-weaker, every-both, every-take, every-drop, every-all}
use Rattle.tcmu_types.proofs.Rises.{among-filter, among_every, every-among, count_differ, differ-take, rise_differ}
use Rattle.tcmu_model.proofs.Basics.{laid_rise, commands_serials, among_more}
use Rattle.tcmu_model.proofs.Facts.{dispatched_rise, placed_laid}

pub any_among : (s : ℕ) (us : List Unfinished) → list_any (has_serial s) us ≡ is_among (map (λ u. u.serial) us) s
any_among s [] = refl
any_among s (u ∷ us) = ap (λ b. eqb u.serial s || b) (any_among s us)

there_is : (d : DeviceState) (s : ℕ) → SerialsSound d → list_any (has_serial s) d.unfinished ≡ (not (is_among (finished d) s) && is_among (serials_in d.ring.laid) s)
there_is d s h = any_among s d.unfinished ∙ (ap (λ (xs : List ℕ). is_among xs s) h.order ∙ among-filter (λ k. not (is_among (finished d) k)) (serials_in d.ring.laid) s)

-- cleared answers are of commands that are finished
pub finished_gone : (d : DeviceState) → IsSound d → Every (λ s. list_any (has_serial s) d.unfinished ≡ false) (finished d)
finished_gone d h =
    every-weaker (λ s. is_among (finished d) s ≡ true) (λ s. list_any (has_serial s) d.unfinished ≡ false) (finished d)
    (λ s k. there_is d s h.serials ∙ (let z : (not (is_among (finished d) s) && is_among (serials_in d.ring.laid) s) ≡ false = rw k refl in z)) (every-among (finished d))

apart_from : (s : ℕ) (ss : List ℕ) → is_among ss s ≡ false → Every (λ k. eqb s k ≡ false) ss
apart_from s [] h = tt
apart_from s (k ∷ ss) h = let t = or_parts (eqb k s) (is_among ss s) h in (ne_eqb s k (λ q. eqb-false k s t.0 (sym q)), apart_from s ss t.1)

-- what stands behind differs from the front
differ_parts : (n : ℕ) (ss : List ℕ) → Differ ss → Every (λ k. is_among (take n ss) k ≡ false) (drop n ss)
differ_parts zero ss d = every-all (λ k. is_among [] k ≡ false) ss (λ k. refl)
differ_parts (suc n) [] d = tt
differ_parts (suc n) (s ∷ ss) d =
    every-weaker (λ k. (is_among (take n ss) k ≡ false) × (eqb s k ≡ false)) (λ k. is_among (s ∷ take n ss) k ≡ false) (drop n ss) (λ k p. rw (p.1) (p.0))
    (every-both (λ k. is_among (take n ss) k ≡ false) (λ k. eqb s k ≡ false) (drop n ss) (differ_parts n ss d.1) (every-drop (λ k. eqb s k ≡ false) n ss (apart_from s ss d.0)))

-- the others are of commands that are not
pub placed_there : (d : DeviceState) → IsSound d → Every (λ s. list_any (has_serial s) d.unfinished ≡ true) (drop (cleared_commands d.ring) d.placed)
placed_there d h =
    let c : ℕ = cleared_commands d.ring in
    every-weaker (λ s. (is_among (finished d) s ≡ false) × (is_among (serials_in d.ring.laid) s ≡ true)) (λ s. list_any (has_serial s) d.unfinished ≡ true) (drop c d.placed)
    (λ s k. there_is d s h.serials ∙ (let z : (not (is_among (finished d) s) && is_among (serials_in d.ring.laid) s) ≡ true = rw (k.0, k.1) refl in z))
    (every-both (λ s. is_among (finished d) s ≡ false) (λ s. is_among (serials_in d.ring.laid) s ≡ true) (drop c d.placed)
    (differ_parts c d.placed h.answers.differ) (every-drop (λ s. is_among (serials_in d.ring.laid) s ≡ true) c d.placed (placed_laid d h.answers)))

-- ==== rows

answered_fits : (dispatched published attached : Bool) (t : CommandState) (r : Bool) → dispatched ≡ true → state_fits dispatched true published attached t r ≡ true → (t ≡ (if attached || published then Placed else Lost)) × (r ≡ true)
answered_fits true p q Waiting r e h = absurd (false≢true h)
answered_fits true p q Out r e h = absurd (false≢true h)
answered_fits true p q Handled r e h = absurd (false≢true h)
answered_fits true p q Parked r e h = absurd (false≢true h)
answered_fits true p true Placed true e h = (refl, refl)
answered_fits true true false Placed true e h = (refl, refl)
answered_fits true false false Placed true e h = absurd (false≢true h)
answered_fits true p true Placed false e h = absurd (false≢true h)
answered_fits true true false Placed false e h = absurd (false≢true h)
answered_fits true false false Placed false e h = absurd (false≢true h)
answered_fits true p true Lost r e h = absurd (false≢true h)
answered_fits true true false Lost r e h = absurd (false≢true h)
answered_fits true false false Lost true e h = (refl, refl)
answered_fits true false false Lost false e h = absurd (false≢true h)
answered_fits false p q t r e h = absurd (false≢true e)

-- a command whose answer is placed is Placed, or Lost with its reply where the user side went before it was published
pub answered_rows : (d : DeviceState) → IsSound d → Every (λ u. is_among d.placed u.serial ≡ true → (u.state ≡ (if d.attached || is_among (answered d) u.serial then Placed else Lost)) × (is_some u.reply ≡ true)) d.unfinished
answered_rows d h =
    every-weaker (λ u. is_right d u ≡ true) (λ u. is_among d.placed u.serial ≡ true → (u.state ≡ (if d.attached || is_among (answered d) u.serial then Placed else Lost)) × (is_some u.reply ≡ true)) d.unfinished
    (λ u k p.
    let s : is_among (dispatched_serials d.ring) u.serial ≡ true = among_every (λ x. is_among (dispatched_serials d.ring) x ≡ true) d.placed u.serial h.answers.dispatched p in
    let z : state_fits (is_among (dispatched_serials d.ring) u.serial) true (is_among (answered d) u.serial) d.attached u.state (is_some u.reply) ≡ true = rw p at k in
    answered_fits (is_among (dispatched_serials d.ring) u.serial) (is_among (answered d) u.serial) d.attached u.state (is_some u.reply) s z) h.answers.states

in_hand_fits : (published attached : Bool) (t : CommandState) (r : Bool) → state_fits true false published attached t r ≡ true →
    (if attached then same_state t Out || same_state t Handled || same_state t Parked else same_state t Lost && not r) ≡ true
in_hand_fits p q Waiting r h = absurd (false≢true h)
in_hand_fits p true Out r h = refl
in_hand_fits p false Out r h = absurd (false≢true h)
in_hand_fits p true Handled r h = refl
in_hand_fits p false Handled r h = absurd (false≢true h)
in_hand_fits p true Parked r h = refl
in_hand_fits p false Parked r h = absurd (false≢true h)
in_hand_fits p q Placed r h = absurd (false≢true h)
in_hand_fits p true Lost r h = absurd (false≢true h)
in_hand_fits true false Lost r h = absurd (false≢true h)
in_hand_fits false false Lost true h = absurd (false≢true h)
in_hand_fits false false Lost false h = refl

-- another dispatched command is in hand, or Lost without a reply on a detached device
pub in_hand_rows : (d : DeviceState) → IsSound d → Every (λ u. is_among (dispatched_serials d.ring) u.serial ≡ true → is_among d.placed u.serial ≡ false → (if d.attached then is_in_hand u else has_state Lost u && not (is_some u.reply)) ≡ true) d.unfinished
in_hand_rows d h =
    every-weaker (λ u. is_right d u ≡ true) (λ u. is_among (dispatched_serials d.ring) u.serial ≡ true → is_among d.placed u.serial ≡ false → (if d.attached then is_in_hand u else has_state Lost u && not (is_some u.reply)) ≡ true) d.unfinished
    (λ u k s p.
    let z : state_fits true false (is_among (answered d) u.serial) d.attached u.state (is_some u.reply) ≡ true = rw (s, p) at k in
    in_hand_fits (is_among (answered d) u.serial) d.attached u.state (is_some u.reply) z) h.answers.states

-- ==== how many answers are owed

-- the number of a list's members that are not left out, where those left out are members
count_left : (F A L : List ℕ) (high : ℕ) → Rise 0 L high → Differ F → Differ A → Every (λ s. is_among L s ≡ true) F → Every (λ s. is_among L s ≡ true) A → Every (λ s. is_among A s ≡ true) F →
    count_by (is_among A) (filter (λ s. not (is_among F s)) L) + length F ≡ length A
count_left F A L high r df da lf la fa =
    omega (arith, split L, count_differ 0 L high F r df lf, count_differ 0 L high A r da la)
  where
    split : (xs : List ℕ) → count_by (is_among A) (filter (λ s. not (is_among F s)) xs) + count_by (is_among F) xs ≡ count_by (is_among A) xs
    split [] = refl
    split (x ∷ xs) =
        let a : count_by (is_among A) (x ∷ xs) ≡ cond (is_among A x) 1 0 + count_by (is_among A) xs = sum_by-cons (λ (y : ℕ). cond {A = ℕ} (is_among A y) 1 0) x xs in
        let f : count_by (is_among F) (x ∷ xs) ≡ cond (is_among F x) 1 0 + count_by (is_among F) xs = sum_by-cons (λ (y : ℕ). cond {A = ℕ} (is_among F y) 1 0) x xs in
        let keep : List ℕ = filter (λ s. not (is_among F s)) xs in
        ⊎_elim
        (λ (e : is_among F x ≡ true).
        let g : is_among A x ≡ true = among_every (λ s. is_among A s ≡ true) F x fa e in
        let b : count_by (is_among A) (filter (λ s. not (is_among F s)) (x ∷ xs)) ≡ count_by (is_among A) keep = rw e refl in
        let ca : cond {A = ℕ} (is_among A x) 1 0 ≡ 1 = ap (λ t. cond {A = ℕ} t 1 0) g in
        let cf : cond {A = ℕ} (is_among F x) 1 0 ≡ 1 = ap (λ t. cond {A = ℕ} t 1 0) e in
        omega (arith, a, f, b, ca, cf, split xs))
        (λ (e : is_among F x ≡ false).
        let b : count_by (is_among A) (filter (λ s. not (is_among F s)) (x ∷ xs)) ≡ cond (is_among A x) 1 0 + count_by (is_among A) keep = rw e (sum_by-cons (λ (y : ℕ). cond {A = ℕ} (is_among A y) 1 0) x keep) in
        let cf : cond {A = ℕ} (is_among F x) 1 0 ≡ 0 = ap (λ t. cond {A = ℕ} t 1 0) e in
        omega (arith, a, f, b, cf, split xs))
        (cases_Bool (is_among F x))

-- a row counts as dispatched, as answered, or as one that awaits an answer
row_counts : (dispatched placed published attached : Bool) (t : CommandState) (r : Bool) → (placed ≡ true → dispatched ≡ true) → state_fits dispatched placed published attached t r ≡ true →
    cond {A = ℕ} (same_state t Out || same_state t Handled || same_state t Parked || (same_state t Lost && not r)) 1 0 + cond placed 1 0 ≡ cond dispatched 1 0
row_counts true p b q Waiting r f h = absurd (false≢true h)
row_counts false true b q Waiting r f h = absurd (false≢true (f refl))
row_counts false false b q Waiting r f h = refl
row_counts true true b q Out r f h = absurd (false≢true h)
row_counts true false b q Out r f h = refl
row_counts false p b q Out r f h = absurd (false≢true h)
row_counts true true b q Handled r f h = absurd (false≢true h)
row_counts true false b q Handled r f h = refl
row_counts false p b q Handled r f h = absurd (false≢true h)
row_counts true true b q Parked r f h = absurd (false≢true h)
row_counts true false b q Parked r f h = refl
row_counts false p b q Parked r f h = absurd (false≢true h)
row_counts true true b q Placed r f h = refl
row_counts true false b q Placed r f h = absurd (false≢true h)
row_counts false p b q Placed r f h = absurd (false≢true h)
row_counts true true b true Lost r f h = absurd (false≢true h)
row_counts true false b true Lost r f h = absurd (false≢true h)
row_counts true p true false Lost r f h = absurd (false≢true h)
row_counts true true false false Lost true f h = refl
row_counts true true false false Lost false f h = absurd (false≢true h)
row_counts true false false false Lost true f h = absurd (false≢true h)
row_counts true false false false Lost false f h = refl
row_counts false p b q Lost r f h = absurd (false≢true h)

-- each dispatched command has been used for an answer, or one is owed
pub awaiting : (d : DeviceState) → IsSound d → count_by awaits_answer d.unfinished + length d.placed ≡ dispatched_commands d.ring
awaiting d h =
    let L : List ℕ = serials_in d.ring.laid in
    let D : List ℕ = dispatched_serials d.ring in
    let F : List ℕ = finished d in
    let fl : Every (λ s. is_among L s ≡ true) F = every-take (λ s. is_among L s ≡ true) (cleared_commands d.ring) d.placed (placed_laid d h.answers) in
    let fd : Every (λ s. is_among D s ≡ true) F = every-take (λ s. is_among D s ≡ true) (cleared_commands d.ring) d.placed h.answers.dispatched in
    let fp : Every (λ s. is_among d.placed s ≡ true) F = every-take (λ s. is_among d.placed s ≡ true) (cleared_commands d.ring) d.placed (every-among d.placed) in
    let df : Differ F = differ-take (cleared_commands d.ring) d.placed h.answers.differ in
    let dl : Every (λ s. is_among L s ≡ true) D = dispatched_laid d in
    let r = laid_rise d h.serials in
    let a = count_left F D L d.accepted r df (rise_differ 0 D d.accepted (dispatched_rise d h.serials)) fl dl fd in
    let b = count_left F d.placed L d.accepted r df h.answers.differ fl (placed_laid d h.answers) fp in
    let a' : count_by (is_among D) (map (λ u. u.serial) d.unfinished) ≡ count_by (is_among D) (filter (λ s. not (is_among F s)) L) = ap (count_by (is_among D)) h.serials.order in
    let b' : count_by (is_among d.placed) (map (λ u. u.serial) d.unfinished) ≡ count_by (is_among d.placed) (filter (λ s. not (is_among F s)) L) = ap (count_by (is_among d.placed)) h.serials.order in
    omega (arith, a, b, a', b', rows d.unfinished (every-weaker (λ u. is_right d u ≡ true) (Right d) d.unfinished (λ u k. right d u h k) h.answers.states), commands_serials (take d.ring.dispatched d.ring.laid))
  where
    Right : (d : DeviceState) → Unfinished → Type 0
    Right d u = cond {A = ℕ} (awaits_answer u) 1 0 + cond (is_among d.placed u.serial) 1 0 ≡ cond (is_among (dispatched_serials d.ring) u.serial) 1 0

    right : (d : DeviceState) (u : Unfinished) → IsSound d → is_right d u ≡ true → Right d u
    right d u h k =
        row_counts (is_among (dispatched_serials d.ring) u.serial) (is_among d.placed u.serial) (is_among (answered d) u.serial) d.attached u.state (is_some u.reply)
        (λ p. among_every (λ x. is_among (dispatched_serials d.ring) x ≡ true) d.placed u.serial h.answers.dispatched p) k

    dispatched_laid : (d : DeviceState) → Every (λ s. is_among (serials_in d.ring.laid) s ≡ true) (dispatched_serials d.ring)
    dispatched_laid d =
        every-weaker (λ s. is_among (dispatched_serials d.ring) s ≡ true) (λ s. is_among (serials_in d.ring.laid) s ≡ true) (dispatched_serials d.ring)
        (λ s k. among_more d.ring.dispatched d.ring.laid s k) (every-among (dispatched_serials d.ring))

    rows : (us : List Unfinished) → Every (Right d) us → count_by awaits_answer us + count_by (is_among d.placed) (map (λ u. u.serial) us) ≡ count_by (is_among (dispatched_serials d.ring)) (map (λ u. u.serial) us)
    rows [] e = refl
    rows (u ∷ us) e =
        let a : count_by awaits_answer (u ∷ us) ≡ cond (awaits_answer u) 1 0 + count_by awaits_answer us = sum_by-cons (λ (v : Unfinished). cond {A = ℕ} (awaits_answer v) 1 0) u us in
        let b : count_by (is_among d.placed) (map (λ u. u.serial) (u ∷ us)) ≡ cond (is_among d.placed u.serial) 1 0 + count_by (is_among d.placed) (map (λ u. u.serial) us) = sum_by-cons (λ (y : ℕ). cond {A = ℕ} (is_among d.placed y) 1 0) u.serial (map (λ u. u.serial) us) in
        let c : count_by (is_among (dispatched_serials d.ring)) (map (λ u. u.serial) (u ∷ us)) ≡ cond (is_among (dispatched_serials d.ring) u.serial) 1 0 + count_by (is_among (dispatched_serials d.ring)) (map (λ u. u.serial) us) = sum_by-cons (λ (y : ℕ). cond {A = ℕ} (is_among (dispatched_serials d.ring) y) 1 0) u.serial (map (λ u. u.serial) us) in
        omega (arith, a, b, c, e.0, rows us e.1)
