-- The order in which a tick logs what ends with it.
use Rattle.std.proofs.Common.{◌≡◌, ℕ, Bool, true, false, List, [], ◌∷◌, ◌++◌, map, refl, sym, ap, arith, ⊎_elim, subst}
use Rattle.std.specs.List.{filter}
use Rattle.std.proofs.lemmas.Bool.{cases_Bool}
use Rattle.std.proofs.lemmas.List.{append_cancel_left}
use Rattle.tcmu_types.specs.Data.{DoneData}
use Rattle.tcmu_types.specs.Lists.{Every}
use Rattle.tcmu_types.specs.Numbers.{Rise}
use Rattle.tcmu_types.proofs.Everies.{every-all, every-back, every-map}
use Rattle.tcmu_types.proofs.Rises.{rise_from}
use Rattle.tcmu_model.specs.RingState.{serials_in}
use Rattle.tcmu_model.specs.Device.{Unfinished, Delayed, DeviceState}
use Rattle.tcmu_model.specs.Events.{after_tick, departure, expiry, has_left, is_due, later, tick_completions}
use Rattle.tcmu_model.specs.Sound.{IsSound, SerialsSound, delayed_serials}
use Rattle.tcmu_model.proofs.SoundEvents.{delayed_rise, rise_behind}

abbrev has_expired : DoneData → Type 0
has_expired e = e.status ≡ 0x02

abbrev has_departed : DoneData → Type 0
has_departed e = e.status ≡ 0x28

-- what a tick adds to the log is what it logs
logged : (d : DeviceState) (n : ℕ) (es : List DoneData) → (after_tick d n).log ≡ d.log ++ es → tick_completions d (later d.now n) ≡ es
unfolding after_tick
logged d n es h = append_cancel_left d.log (tick_completions d (later d.now n)) es h

expiries : (now : ℕ) (us : List Unfinished) → Every has_expired (map expiry (filter (is_due now) us))
expiries now us = every-map expiry (λ (u : Unfinished). Unit {0}) has_expired (filter (is_due now) us) (λ u t. refl) (every-all (λ (u : Unfinished). Unit {0}) (filter (is_due now) us) (λ u. tt))

departures : (now : ℕ) (ws : List Delayed) → Every has_departed (map departure (filter (has_left now) ws))
departures now ws = every-map departure (λ (w : Delayed). Unit {0}) has_departed (filter (has_left now) ws) (λ w t. refl) (every-all (λ (w : Delayed). Unit {0}) (filter (has_left now) ws) (λ w. tt))

-- ==== expiries before departures

behind : (xs ys front back : List DoneData) (e : DoneData) → Every has_expired xs → Every has_departed ys → xs ++ ys ≡ front ++ e ∷ back → has_departed e → Every has_departed back
behind [] ys front back e a b h s = let c : Every has_departed (e ∷ back) = every-back has_departed front (e ∷ back) (subst (Every has_departed) h b) in c.1
behind (x ∷ xs) ys [] back e a b h s =
    let k : x ≡ e = cc in
    let l : x.status ≡ e.status = ap (λ (z : DoneData). z.status) k in
    absurd (omega (arith, a.0, l, s))
behind (x ∷ xs) ys (f ∷ front) back e a b h s = let k : xs ++ ys ≡ front ++ e ∷ back = cc in behind xs ys front back e a.1 b k s

ahead : (xs ys front back : List DoneData) (e : DoneData) → Every has_expired xs → Every has_departed ys → xs ++ ys ≡ front ++ e ∷ back → has_expired e → Every has_expired front
ahead xs ys [] back e a b h s = tt
ahead [] ys (f ∷ front) back e a b h s =
    let c : Every has_departed (e ∷ back) = every-back has_departed (f ∷ front) (e ∷ back) (subst (Every has_departed) h b) in
    absurd (omega (arith, c.0, s))
ahead (x ∷ xs) ys (f ∷ front) back e a b h s =
    let j : x ≡ f = cc in
    let k : xs ++ ys ≡ front ++ e ∷ back = cc in
    (subst has_expired j a.0, ahead xs ys front back e a.1 b k s)

pub departs_last : (d : DeviceState) (n : ℕ) (front back : List DoneData) (e : DoneData) → (after_tick d n).log ≡ d.log ++ (front ++ e ∷ back) → has_departed e → Every has_departed back
departs_last d n front back e h s = behind _ _ front back e (expiries (later d.now n) d.unfinished) (departures (later d.now n) d.delayed) (logged d n (front ++ e ∷ back) h) s

pub expires_first : (d : DeviceState) (n : ℕ) (front back : List DoneData) (e : DoneData) → (after_tick d n).log ≡ d.log ++ (front ++ e ∷ back) → has_expired e → Every has_expired front
expires_first d n front back e h s = ahead _ _ front back e (expiries (later d.now n) d.unfinished) (departures (later d.now n) d.delayed) (logged d n (front ++ e ∷ back) h) s

-- ==== in rising serial

-- fewer serials in front rise too
filtered_front : (p : ℕ → Bool) (low : ℕ) (xs ys : List ℕ) (high : ℕ) → Rise low (xs ++ ys) high → Rise low (filter p xs ++ ys) high
filtered_front p low [] ys high r = r
filtered_front p low (x ∷ xs) ys high r =
    ⊎_elim
    (λ (e : p x ≡ true). rw e (r.0, filtered_front p x xs ys high r.1))
    (λ (e : p x ≡ false). rw e (rise_from x low (filter p xs ++ ys) high (omega (arith, r.0)) (filtered_front p x xs ys high r.1)))
    (cases_Bool (p x))

fewer_rows : (p : Unfinished → Bool) (low : ℕ) (us : List Unfinished) (ys : List ℕ) (high : ℕ) → Rise low (map (λ u. u.serial) us ++ ys) high → Rise low (map (λ u. u.serial) (filter p us) ++ ys) high
fewer_rows p low [] ys high r = r
fewer_rows p low (u ∷ us) ys high r =
    ⊎_elim
    (λ (e : p u ≡ true). rw e (r.0, fewer_rows p u.serial us ys high r.1))
    (λ (e : p u ≡ false). rw e (rise_from u.serial low (map (λ (v : Unfinished). v.serial) (filter p us) ++ ys) high (omega (arith, r.0)) (fewer_rows p u.serial us ys high r.1)))
    (cases_Bool (p u))

-- the commands that are laid, and behind them those that wait
all_rise : (d : DeviceState) → SerialsSound d → Rise 0 (map (λ u. u.serial) d.unfinished ++ delayed_serials d.delayed) d.accepted
all_rise d h = subst (λ (xs : List ℕ). Rise 0 (xs ++ delayed_serials d.delayed) d.accepted) (sym h.order) (filtered_front _ 0 (serials_in d.ring.laid) (delayed_serials d.delayed) d.accepted h.rise)

serials : (us : List Unfinished) (ws : List Delayed) → map (λ e. e.serial) (map expiry us ++ map departure ws) ≡ map (λ u. u.serial) us ++ delayed_serials ws
serials [] [] = refl
serials [] (w ∷ ws) = ap (λ (xs : List ℕ). w.serial ∷ xs) (serials [] ws)
serials (u ∷ us) ws = ap (λ (xs : List ℕ). u.serial ∷ xs) (serials us ws)

pub logged_rise : (d : DeviceState) (n : ℕ) (es : List DoneData) → IsSound d → (after_tick d n).log ≡ d.log ++ es → Rise 0 (map (λ e. e.serial) es) d.accepted
logged_rise d n es g h =
    let now : ℕ = later d.now n in
    let us : List Unfinished = filter (is_due now) d.unfinished in
    let a : Rise 0 (map (λ (u : Unfinished). u.serial) us ++ delayed_serials d.delayed) d.accepted = fewer_rows (is_due now) 0 d.unfinished (delayed_serials d.delayed) d.accepted (all_rise d g.serials) in
    let b : Rise 0 (map (λ (u : Unfinished). u.serial) us ++ delayed_serials (filter (has_left now) d.delayed)) d.accepted = rise_behind 0 (map (λ (u : Unfinished). u.serial) us) (delayed_serials d.delayed) (delayed_serials (filter (has_left now) d.delayed)) d.accepted (λ l r. delayed_rise (has_left now) l d.delayed d.accepted r) a in
    let c : Rise 0 (map (λ (e : DoneData). e.serial) (tick_completions d now)) d.accepted = subst (λ (xs : List ℕ). Rise 0 xs d.accepted) (sym (serials us (filter (has_left now) d.delayed))) b in
    subst (λ (xs : List DoneData). Rise 0 (map (λ (e : DoneData). e.serial) xs) d.accepted) (logged d n es h) c
