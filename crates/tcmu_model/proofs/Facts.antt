-- What soundness gives of the ring and of the answers: counts, bounds, and what is left behind a front.
use Rattle.std.proofs.Common.{◌≡◌, ℕ, ◌+◌, ◌*◌, ◌<◌, ◌≤◌, Bool, true, false, not, cond, List, [], ◌∷◌, ◌++◌, length, take, drop, map, refl, sym, ap, ◌∙◌, arith, ⊎_elim, subst}
use Rattle.std.specs.List.{filter, count_by}
use Rattle.std.specs.Option.{is_some}
use Rattle.std.proofs.lemmas.Bool.{cases_Bool, true≢false, false≢true}
use Rattle.std.proofs.lemmas.List.{length-map, length-take-le, take-take}
use Rattle.std.proofs.lemmas.List.Elements.{filter-append}
use Rattle.std.proofs.lemmas.List.Filters.{length-filter_both}
use Rattle.std.proofs.lemmas.List.Sums.{sum_by-cons, sum_by-take-drop, length-filter, count_by-le-length}
use Rattle.tcmu_types.specs.Data.{SettingsData}
use Rattle.tcmu_model.specs.declared.state.CommandState.{CommandState}
use Rattle.tcmu_model.specs.declared.state.CommandState.TheVariants.{Waiting, Out, Handled, Parked, Placed, Lost}
use Rattle.tcmu_model.specs.States.{same_state}
use Rattle.tcmu_model.specs.RingState.{Item, Laid, Pad, Cmd, Tmr, lengths, used, is_command, commands_in, serials_in, cleared_commands, published_commands, dispatched_commands, front_with}
use Rattle.tcmu_model.specs.Device.{Unfinished, Delayed, DeviceState, has_state}
use Rattle.tcmu_model.specs.Events.{publishable}
use Rattle.tcmu_types.specs.Numbers.{is_among, Rise}
use Rattle.tcmu_model.specs.Sound.{Along, IsItem, finished, delayed_serials, dispatched_serials, state_fits, is_right, SerialsSound, AnswersSound, IsSound}
use Rattle.tcmu_types.specs.Lists.{Every}
use Rattle.tcmu_model.proofs.Fronts.{front_holds, front_longest, front_short}
use Rattle.tcmu_types.proofs.Everies.{every-weaker, every-take, every-drop, filter_same, filter_all, filter_twice, map_filter}
use Rattle.tcmu_types.proofs.Rises.{rise_front, rise_seam, count_differ, differ-take, not_among, among_every, every-among}
use Rattle.tcmu_model.proofs.SoundLaying.{entry_least}
use Rattle.tcmu_model.proofs.Basics.{laid_rise, serials_split, placed_every, commands_serials, cleared_placed}

-- ==== counts

pub dispatched_rise : (d : DeviceState) → SerialsSound d → Rise 0 (dispatched_serials d.ring) d.accepted
dispatched_rise d h =
    rise_front 0 (dispatched_serials d.ring) (serials_in (drop d.ring.dispatched d.ring.laid)) d.accepted
    (subst (λ (xs : List ℕ). Rise 0 xs d.accepted) (sym (serials_split d.ring.dispatched d.ring.laid)) (laid_rise d h))

pub placed_laid : (d : DeviceState) → AnswersSound d → Every (λ s. is_among (serials_in d.ring.laid) s ≡ true) d.placed
placed_laid d h = placed_every (λ s. is_among (serials_in d.ring.laid) s ≡ true) d h (every-among (serials_in d.ring.laid))

-- no more answers are placed than commands are dispatched
pub placed_dispatched : (d : DeviceState) → IsSound d → length d.placed ≤ dispatched_commands d.ring
placed_dispatched d h =
    let a : count_by (is_among d.placed) (dispatched_serials d.ring) ≡ length d.placed = count_differ 0 (dispatched_serials d.ring) d.accepted d.placed (dispatched_rise d h.serials) h.answers.differ h.answers.dispatched in
    let b : count_by (is_among d.placed) (dispatched_serials d.ring) ≤ length (dispatched_serials d.ring) = count_by-le-length (is_among d.placed) (dispatched_serials d.ring) in
    let c : dispatched_commands d.ring ≡ length (dispatched_serials d.ring) = commands_serials (take d.ring.dispatched d.ring.laid) in
    omega (arith, a, b, c)

pub length_finished : (d : DeviceState) → IsSound d → length (finished d) ≡ cleared_commands d.ring
length_finished d h = length-take-le (cleared_commands d.ring) d.placed (cleared_placed d h.ring h.answers)

-- each command that is laid is finished or unfinished
pub count_rows : (d : DeviceState) → IsSound d → length d.unfinished + cleared_commands d.ring ≡ commands_in d.ring.laid
count_rows d h =
    let L : List ℕ = serials_in d.ring.laid in
    let F : List ℕ = finished d in
    let keep : ℕ → Bool = λ s. not (is_among F s) in
    let a : length (map (λ (u : Unfinished). u.serial) d.unfinished) ≡ length d.unfinished = length-map d.unfinished (λ (u : Unfinished). u.serial) in
    let b : length (map (λ (u : Unfinished). u.serial) d.unfinished) ≡ length (filter keep L) = ap length h.serials.order in
    let c : length (filter (is_among F) L) + length (filter keep L) ≡ length L = length-filter_both (is_among F) keep (λ s. refl) L in
    let e : length (filter (is_among F) L) ≡ count_by (is_among F) L = length-filter (is_among F) L in
    let f : count_by (is_among F) L ≡ length F = count_differ 0 L d.accepted F (laid_rise d h.serials) (differ-take (cleared_commands d.ring) d.placed h.answers.differ) (every-take (λ s. is_among L s ≡ true) (cleared_commands d.ring) d.placed (placed_laid d h.answers)) in
    let g : length F ≡ cleared_commands d.ring = length_finished d h in
    omega (arith, a, b, c, e, f, g, commands_serials d.ring.laid)

-- an entry has at least 112 bytes
abbrev weighs : Item → Type 0
weighs i = 112 * cond (is_command i) 1 0 ≤ i.len

item_weighs : (s : SettingsData) (start n : ℕ) (l : Laid) → IsItem s start (record { len = n; laid = l }) → weighs (record { len = n; laid = l })
item_weighs s start n Pad h = omega arith
item_weighs s start n (Tmr k ss) h = omega arith
item_weighs s start n (Cmd k c) h = omega (arith, h.kind.0, entry_least s.pages c)

items_weigh : (s : SettingsData) (start : ℕ) (is : List Item) → Along (IsItem s) start is → Every weighs is
items_weigh s start [] h = tt
items_weigh s start (i ∷ is) h = (item_weighs s start i.len i.laid h.0, items_weigh s (start + i.len) is h.1)

weigh_all : (is : List Item) → Every weighs is → 112 * commands_in is ≤ lengths is
weigh_all [] h = omega arith
weigh_all (i ∷ is) h =
    let a : commands_in (i ∷ is) ≡ cond (is_command i) 1 0 + commands_in is = sum_by-cons (λ (x : Item). cond {A = ℕ} (is_command x) 1 0) i is in
    let b : lengths (i ∷ is) ≡ i.len + lengths is = sum_by-cons (λ (x : Item). x.len) i is in
    omega (arith, a, b, h.0, weigh_all is h.1)

-- the ring bounds how many commands are unfinished
pub bounded_rows : (d : DeviceState) → IsSound d → 112 * length d.unfinished ≤ used d.ring
bounded_rows d h =
    let a : commands_in (take d.ring.cleared d.ring.laid) + commands_in (drop d.ring.cleared d.ring.laid) ≡ commands_in d.ring.laid = sum_by-take-drop (λ (x : Item). cond {A = ℕ} (is_command x) 1 0) d.ring.laid d.ring.cleared in
    omega (arith, a, count_rows d h, weigh_all (drop d.ring.cleared d.ring.laid) (every-drop weighs d.ring.cleared d.ring.laid (items_weigh d.settings 0 d.ring.laid h.ring.items)))

-- ==== the unfinished commands that wait are those that are not dispatched

pub waits_or : (dispatched placed published attached : Bool) (t : CommandState) (r : Bool) → state_fits dispatched placed published attached t r ≡ true → same_state t Waiting ≡ not dispatched
waits_or true b p q Waiting r h = absurd (false≢true h)
waits_or false b p q Waiting r h = refl
waits_or true b p q Out r h = refl
waits_or false b p q Out r h = absurd (false≢true h)
waits_or true b p q Handled r h = refl
waits_or false b p q Handled r h = absurd (false≢true h)
waits_or true b p q Parked r h = refl
waits_or false b p q Parked r h = absurd (false≢true h)
waits_or true b p q Placed r h = refl
waits_or false b p q Placed r h = absurd (false≢true h)
waits_or true b p q Lost r h = refl
waits_or false b p q Lost r h = absurd (false≢true h)

pub waiting_undispatched : (d : DeviceState) → IsSound d → Every (λ u. has_state Waiting u ≡ not (is_among (dispatched_serials d.ring) u.serial)) d.unfinished
waiting_undispatched d h =
    every-weaker (λ u. is_right d u ≡ true) (λ u. has_state Waiting u ≡ not (is_among (dispatched_serials d.ring) u.serial)) d.unfinished
    (λ u k. waits_or (is_among (dispatched_serials d.ring) u.serial) (is_among d.placed u.serial) (is_among (take (published_commands d.ring) d.placed) u.serial) d.attached u.state (is_some u.reply) k) h.answers.states

-- numbers that rise in two parts: none of the back stands in front
pub apart_behind : (low : ℕ) (xs ys : List ℕ) (high : ℕ) → Rise low (xs ++ ys) high → Every (λ y. is_among xs y ≡ false) ys
apart_behind low xs [] high r = tt
apart_behind low xs (y ∷ ys) high r =
    let s = rise_seam low xs y ys high r in
    (not_among xs y s.0, apart_more xs y ys high (every-weaker (λ x. x < y) (λ x. x ≤ y) xs (λ x l. omega (arith, l)) s.0) s.2)
  where
    apart_more : (xs : List ℕ) (low : ℕ) (ys : List ℕ) (high : ℕ) → Every (λ x. x ≤ low) xs → Rise low ys high → Every (λ y. is_among xs y ≡ false) ys
    apart_more xs low [] high e r = tt
    apart_more xs low (y ∷ ys) high e r =
        (not_among xs y (every-weaker (λ x. x ≤ low) (λ x. x < y) xs (λ x l. omega (arith, l, r.0)) e), apart_more xs y ys high (every-weaker (λ x. x ≤ low) (λ x. x ≤ y) xs (λ x l. omega (arith, l, r.0)) e) r.1)

pub waiting_rows : (d : DeviceState) → IsSound d → map (λ u. u.serial) (filter (has_state Waiting) d.unfinished) ≡ serials_in (drop d.ring.dispatched d.ring.laid)
waiting_rows d h =
    let L : List ℕ = serials_in d.ring.laid in
    let D : List ℕ = dispatched_serials d.ring in
    let B : List ℕ = serials_in (drop d.ring.dispatched d.ring.laid) in
    let F : List ℕ = finished d in
    let split : D ++ B ≡ L = serials_split d.ring.dispatched d.ring.laid in
    let keep : ℕ → Bool = λ s. not (is_among F s) in
    let new : ℕ → Bool = λ s. not (is_among D s) in
    let apart : Every (λ s. is_among D s ≡ false) B = apart_behind 0 D B d.accepted (subst (λ (xs : List ℕ). Rise 0 xs d.accepted) (sym split) (laid_rise d h.serials)) in
    let a : filter (has_state Waiting) d.unfinished ≡ filter (λ u. new u.serial) d.unfinished = filter_same (has_state Waiting) (λ u. new u.serial) d.unfinished (waiting_undispatched d h) in
    let b : map (λ u. u.serial) (filter (λ u. new u.serial) d.unfinished) ≡ filter new (map (λ u. u.serial) d.unfinished) = map_filter (λ (u : Unfinished). u.serial) new d.unfinished in
    let c : filter new (filter keep L) ≡ filter new L = filter_twice keep new new L (λ s z. both s z) (λ s z. refl) in
    let front : filter new D ≡ [] = none D (every-among D) in
    let back : filter new B ≡ B = filter_all new B (every-weaker (λ s. is_among D s ≡ false) (λ s. new s ≡ true) B (λ s z. rw z refl) apart) in
    ap (map (λ u. u.serial)) a ∙ (b ∙ (ap (filter new) h.serials.order ∙ (c ∙ (ap (filter new) (sym split) ∙ (filter-append new D B ∙ (ap (λ (xs : List ℕ). xs ++ filter new B) front ∙ back))))))
  where
    none : (xs : List ℕ) → Every (λ s. is_among (dispatched_serials d.ring) s ≡ true) xs → filter (λ s. not (is_among (dispatched_serials d.ring) s)) xs ≡ []
    none [] e = refl
    none (x ∷ xs) e = rw (e.0) (none xs e.1)

    both : (s : ℕ) → not (is_among (finished d) s) ≡ false → not (is_among (dispatched_serials d.ring) s) ≡ false
    both s z =
        ⊎_elim
        (λ (e : is_among (finished d) s ≡ true).
        let w : is_among (dispatched_serials d.ring) s ≡ true = among_every (λ k. is_among (dispatched_serials d.ring) k ≡ true) (finished d) s (every-take (λ k. is_among (dispatched_serials d.ring) k ≡ true) (cleared_commands d.ring) d.placed h.answers.dispatched) e in
        rw w refl)
        (λ (e : is_among (finished d) s ≡ false). absurd (true≢false (let w : not (is_among (finished d) s) ≡ true = rw e refl in sym w ∙ z)))
        (cases_Bool (is_among (finished d) s))

-- ==== delayed commands stand above all that are laid

pub delayed_above : (d : DeviceState) → IsSound d → Every (λ w. Every (λ s. s < w.serial) (serials_in d.ring.laid)) d.delayed
delayed_above d h = above 0 (serials_in d.ring.laid) d.delayed d.accepted h.serials.rise
  where
    lower : (xs : List ℕ) (ws : List Delayed) (low high : ℕ) → Every (λ x. x ≤ low) xs → Rise low (delayed_serials ws) high → Every (λ w. Every (λ s. s < w.serial) xs) ws
    lower xs [] low high e r = tt
    lower xs (w ∷ ws) low high e r =
        (every-weaker (λ x. x ≤ low) (λ x. x < w.serial) xs (λ x l. omega (arith, l, r.0)) e, lower xs ws w.serial high (every-weaker (λ x. x ≤ low) (λ x. x ≤ w.serial) xs (λ x l. omega (arith, l, r.0)) e) r.1)

    above : (low : ℕ) (xs : List ℕ) (ws : List Delayed) (high : ℕ) → Rise low (xs ++ delayed_serials ws) high → Every (λ w. Every (λ s. s < w.serial) xs) ws
    above low xs [] high r = tt
    above low xs (w ∷ ws) high r =
        let s = rise_seam low xs w.serial (delayed_serials ws) high r in
        (s.0, lower xs ws w.serial high (every-weaker (λ x. x < w.serial) (λ x. x ≤ w.serial) xs (λ x l. omega (arith, l)) s.0) s.2)

-- ==== publishing

-- the greatest number that the rule allows
pub publishable_fits : (d : DeviceState) → IsSound d → (publishable d ≤ d.ring.dispatched) × (commands_in (take (publishable d) d.ring.laid) ≤ length d.placed)
publishable_fits d h =
    let n : ℕ = length d.placed in
    let front : List Item = take d.ring.dispatched d.ring.laid in
    let len : length front ≡ d.ring.dispatched = length-take-le d.ring.dispatched d.ring.laid h.ring.dispatched in
    let most : front_with n front ≤ length front = front_short n front in
    let holds : commands_in (take (front_with n front) front) ≤ n = front_holds n front in
    let cut : take (front_with n front) front ≡ take (front_with n front) d.ring.laid = take-take (front_with n front) d.ring.dispatched d.ring.laid (omega (arith, len, most)) in
    (omega (arith, len, most), omega (arith, holds, ap commands_in cut))

pub publishable_most : (d : DeviceState) (k : ℕ) → IsSound d → k ≤ d.ring.dispatched → commands_in (take k d.ring.laid) ≤ length d.placed → k ≤ publishable d
publishable_most d k h l m =
    let front : List Item = take d.ring.dispatched d.ring.laid in
    let len : length front ≡ d.ring.dispatched = length-take-le d.ring.dispatched d.ring.laid h.ring.dispatched in
    let cut : commands_in (take k front) ≡ commands_in (take k d.ring.laid) = ap commands_in (take-take k d.ring.dispatched d.ring.laid l) in
    front_longest (length d.placed) k front (omega (arith, len, l)) (omega (arith, cut, m))
