-- First consequences of soundness: serials rise, and what is placed was laid.
use Rattle.std.proofs.Common.{◌≡◌, ℕ, ◌+◌, ◌≤◌, Bool, true, false, not, cond, List, [], ◌∷◌, ◌++◌, length, take, drop, map, refl, sym, ap, ◌∙◌, arith, subst, length-append}
use Rattle.std.specs.List.{filter}
use Rattle.std.proofs.lemmas.Bool.{or_left, false≢true}
use Rattle.std.proofs.lemmas.List.{take-append-drop}
use Rattle.std.proofs.lemmas.List.Sums.{sum_by-cons}
use Rattle.tcmu_model.specs.RingState.{RingState, Item, Laid, Pad, Cmd, Tmr, is_command, commands_in, serial_in, serials_in, cleared_commands, published_commands}
use Rattle.tcmu_model.specs.Device.{Unfinished, DeviceState}
use Rattle.tcmu_types.specs.Numbers.{is_among, Rise}
use Rattle.tcmu_model.specs.Sound.{finished, delayed_serials, dispatched_serials, SerialsSound, AnswersSound, RingSound}
use Rattle.tcmu_types.specs.Lists.{Every}
use Rattle.tcmu_model.proofs.Fronts.{commands_more}
use Rattle.tcmu_types.proofs.Everies.{every-weaker, every-front, every-filter, every-passes, every-mapped}
use Rattle.tcmu_types.proofs.Rises.{rise_front, rise_filter, among-append, among_every, every-among}
use Rattle.tcmu_model.proofs.Laying.{serials-append}

pub laid_rise : (d : DeviceState) → SerialsSound d → Rise 0 (serials_in d.ring.laid) d.accepted
laid_rise d h = rise_front 0 (serials_in d.ring.laid) (delayed_serials d.delayed) d.accepted h.rise

pub rows_rise : (d : DeviceState) → SerialsSound d → Rise 0 (map (λ u. u.serial) d.unfinished) d.accepted
rows_rise d h =
    subst (λ (xs : List ℕ). Rise 0 xs d.accepted) (sym h.order) (rise_filter (λ s. not (is_among (finished d) s)) 0 (serials_in d.ring.laid) d.accepted (laid_rise d h))

-- a front of the items has a front of the serials
pub serials_split : (n : ℕ) (is : List Item) → serials_in (take n is) ++ serials_in (drop n is) ≡ serials_in is
serials_split n is = sym (serials-append (take n is) (drop n is)) ∙ ap serials_in (take-append-drop n is)

pub among_more : (n : ℕ) (is : List Item) (s : ℕ) → is_among (serials_in (take n is)) s ≡ true → is_among (serials_in is) s ≡ true
among_more n is s h =
    ap (λ (xs : List ℕ). is_among xs s) (sym (serials_split n is))
    ∙ (among-append (serials_in (take n is)) (serials_in (drop n is)) s ∙ or_left (is_among (serials_in (take n is)) s) (is_among (serials_in (drop n is)) s) h)

-- what holds of each serial laid holds of each dispatched, and of each whose answer is placed
pub dispatched_every : (P : ℕ → Type 0) (r : RingState) → Every P (serials_in r.laid) → Every P (dispatched_serials r)
dispatched_every P r h =
    every-front P (dispatched_serials r) (serials_in (drop r.dispatched r.laid)) (subst (λ (xs : List ℕ). Every P xs) (sym (serials_split r.dispatched r.laid)) h)

pub placed_every : (P : ℕ → Type 0) (d : DeviceState) → AnswersSound d → Every P (serials_in d.ring.laid) → Every P d.placed
placed_every P d h e =
    every-weaker (λ s. is_among (dispatched_serials d.ring) s ≡ true) P d.placed
    (λ s k. among_every P (dispatched_serials d.ring) s (dispatched_every P d.ring e) k) h.dispatched

pub commands_serials : (is : List Item) → commands_in is ≡ length (serials_in is)
commands_serials [] = refl
commands_serials (i ∷ is) =
    let a : commands_in (i ∷ is) ≡ cond (is_command i) 1 0 + commands_in is = sum_by-cons (λ (x : Item). cond (is_command x) 1 0) i is in
    let b : length (serials_in (i ∷ is)) ≡ length (serial_in i) + length (serials_in is) = length-append (serial_in i) (serials_in is) in
    omega (arith, a, b, one i.len i.laid, commands_serials is)
  where
    one : (n : ℕ) (l : Laid) → let i : Item = record { len = n; laid = l } in cond {A = ℕ} (is_command i) 1 0 ≡ length (serial_in i)
    one n Pad = refl
    one n (Cmd s c) = refl
    one n (Tmr k ss) = refl

-- cleared answers are among the published ones
pub cleared_published : (d : DeviceState) → RingSound d.settings d.ring → cleared_commands d.ring ≤ published_commands d.ring
cleared_published d h = commands_more d.ring.cleared d.ring.published d.ring.laid h.cleared

pub cleared_placed : (d : DeviceState) → RingSound d.settings d.ring → AnswersSound d → cleared_commands d.ring ≤ length d.placed
cleared_placed d h a = omega (arith, cleared_published d h, a.published)

-- each unfinished command is laid, and not finished
pub rows_among : (d : DeviceState) → SerialsSound d → Every (λ u. is_among (serials_in d.ring.laid) u.serial ≡ true) d.unfinished
rows_among d h =
    every-mapped (λ (u : Unfinished). u.serial) (λ k. is_among (serials_in d.ring.laid) k ≡ true) d.unfinished
    (subst (λ (xs : List ℕ). Every (λ k. is_among (serials_in d.ring.laid) k ≡ true) xs) (sym h.order)
    (every-filter (λ k. not (is_among (finished d) k)) (λ k. is_among (serials_in d.ring.laid) k ≡ true) (serials_in d.ring.laid) (every-among (serials_in d.ring.laid))))

pub rows_unfinished : (d : DeviceState) → SerialsSound d → Every (λ u. is_among (finished d) u.serial ≡ false) d.unfinished
rows_unfinished d h =
    every-mapped (λ (u : Unfinished). u.serial) (λ k. is_among (finished d) k ≡ false) d.unfinished
    (subst (λ (xs : List ℕ). Every (λ k. is_among (finished d) k ≡ false) xs) (sym h.order)
    (every-weaker (λ k. not (is_among (finished d) k) ≡ true) (λ k. is_among (finished d) k ≡ false) (filter (λ k. not (is_among (finished d) k)) (serials_in d.ring.laid)) (λ k z. back (is_among (finished d) k) z)
    (every-passes (λ k. not (is_among (finished d) k)) (serials_in d.ring.laid))))
  where
    back : (b : Bool) → not b ≡ true → b ≡ false
    back true h = absurd (false≢true h)
    back false h = refl
