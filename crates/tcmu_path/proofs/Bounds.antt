-- What a sound device tells of its numbers.
use Rattle.std.proofs.Common.{◌≡◌, ℕ, ◌+◌, ◌*◌, ◌<◌, ◌≤◌, Bool, true, false, cond, not, ltb, eqb, List, [], ◌∷◌, ◌++◌, length, map, Some, None, refl, sym, ap, subst, arith, ⊎_elim}
use Rattle.std.specs.List.{list_any, count_by, filter}
use Rattle.std.proofs.lemmas.Bool.{cases_Bool, false≢true, ltb-true, ltb-false, eqb-true, ne_eqb, le-ltb, lt-ltb}
use Rattle.std.proofs.lemmas.List.Sums.{sum_by-cons, count_by-le-length}
use Rattle.tcmu_types.specs.Numbers.{RisesAbove, IsRising, is_among, Rise, Differ}
use Rattle.tcmu_model.specs.RingState.{serials_in, used}
use Rattle.tcmu_model.specs.Device.{Unfinished, Delayed, DeviceState, has_serial}
use Rattle.tcmu_model.specs.Events.{unknown_serial}
use Rattle.tcmu_model.specs.Sound.{IsSound, finished, delayed_serials}
use Rattle.tcmu_types.specs.Lists.{Every}
use Rattle.tcmu_path.specs.Away.{AreAway}
use Rattle.tcmu_model.proofs.Facts.{bounded_rows}
use Rattle.tcmu_types.proofs.Everies.{every-filter}
use Rattle.tcmu_path.specs.Tallies.{serials_of}
use Rattle.tcmu_types.proofs.Readings.{not_true}
use Rattle.tcmu_types.proofs.Rises.{differ_front, rise_order, rise_differ}
use Rattle.tcmu_model.proofs.Accounts.{at_most_one}

-- ==== few commands are unfinished

pub few_rows : (d : DeviceState) → IsSound d → length d.unfinished ≤ 65536
few_rows d h =
    let b : 112 * length d.unfinished ≤ used d.ring = bounded_rows d h in
    omega (arith, b, h.ring.room, h.ring.size, h.settings.ring.most)

-- ==== serials that are named in a note

above : ℕ → Unfinished → Bool
above n u = ltb n u.serial

above-fewer : (n m : ℕ) (u : Unfinished) → n ≤ m → cond {A = ℕ} (above m u) 1 0 ≤ cond (above n u) 1 0
unfolding above
above-fewer n m u h =
    ⊎_elim
    (λ (e : ltb m u.serial ≡ true). ⊎_elim (λ (f : ltb n u.serial ≡ true). rw (e, f) (omega arith)) (λ (f : ltb n u.serial ≡ false). absurd (omega (arith, ltb-true m u.serial e, ltb-false n u.serial f, h))) (cases_Bool (ltb n u.serial)))
    (λ (e : ltb m u.serial ≡ false). rw e (omega arith))
    (cases_Bool (ltb m u.serial))

count-above : (n m : ℕ) (us : List Unfinished) → n ≤ m → count_by (above m) us ≤ count_by (above n) us
count-above n m [] h = omega arith
count-above n m (u ∷ us) h = omega (arith, sum_by-cons (λ x. cond {A = ℕ} (above m x) 1 0) u us, sum_by-cons (λ x. cond {A = ℕ} (above n x) 1 0) u us, above-fewer n m u h, count-above n m us h)

count-at : (n s : ℕ) (us : List Unfinished) → n < s → list_any (has_serial s) us ≡ true → count_by (above s) us + 1 ≤ count_by (above n) us
unfolding above
count-at n s [] h a = absurd (false≢true a)
count-at n s (u ∷ us) h a =
    let l = sum_by-cons (λ x. cond {A = ℕ} (above s x) 1 0) u us in
    let m = sum_by-cons (λ x. cond {A = ℕ} (above n x) 1 0) u us in
    ⊎_elim
    (λ (e : eqb u.serial s ≡ true).
    let q : u.serial ≡ s = eqb-true u.serial s e in
    let no : ltb s u.serial ≡ false = le-ltb s u.serial (omega (arith, q)) in
    let yes : ltb n u.serial ≡ true = lt-ltb n u.serial (omega (arith, q, h)) in
    let one : cond {A = ℕ} (above n u) 1 0 ≡ 1 = ap (λ b. cond {A = ℕ} b 1 0) yes in
    let none : cond {A = ℕ} (above s u) 1 0 ≡ 0 = ap (λ b. cond {A = ℕ} b 1 0) no in
    omega (arith, l, m, one, none, count-above n s us (omega (arith, h))))
    (λ (e : eqb u.serial s ≡ false).
    let k : list_any (has_serial s) us ≡ true = rw e at a in
    omega (arith, l, m, above-fewer n s u (omega (arith, h)), count-at n s us h k))
    (cases_Bool (eqb u.serial s))

few-above : (n : ℕ) (ss : List ℕ) (us : List Unfinished) → RisesAbove n ss → unknown_serial us ss ≡ None → length ss ≤ count_by (above n) us
few-above n [] us r k = omega arith
few-above n (s ∷ ss) us r k =
    ⊎_elim
    (λ (e : list_any (has_serial s) us ≡ true).
    let rest : unknown_serial us ss ≡ None = rw e at k in
    omega (arith, count-at n s us r.0 e, few-above s ss us r.1 rest))
    (λ (e : list_any (has_serial s) us ≡ false). let z : Some s ≡ None = rw e at k in absurd (cc))
    (cases_Bool (list_any (has_serial s) us))

count-less : (s : ℕ) (us : List Unfinished) → list_any (has_serial s) us ≡ true → count_by (above s) us + 1 ≤ length us
unfolding above
count-less s [] a = absurd (false≢true a)
count-less s (u ∷ us) a =
    let l = sum_by-cons (λ x. cond {A = ℕ} (above s x) 1 0) u us in
    ⊎_elim
    (λ (e : eqb u.serial s ≡ true).
    let q : u.serial ≡ s = eqb-true u.serial s e in
    let no : ltb s u.serial ≡ false = le-ltb s u.serial (omega (arith, q)) in
    let none : cond {A = ℕ} (above s u) 1 0 ≡ 0 = ap (λ b. cond {A = ℕ} b 1 0) no in
    omega (arith, l, none, count_by-le-length (above s) us))
    (λ (e : eqb u.serial s ≡ false).
    let k : list_any (has_serial s) us ≡ true = rw e at a in
    let one : cond {A = ℕ} (above s u) 1 0 ≤ 1 = at_most_one (above s u) in
    omega (arith, l, one, count-less s us k))
    (cases_Bool (eqb u.serial s))

-- rising serials that are all known are no more than the commands
pub few_known : (ss : List ℕ) (us : List Unfinished) → IsRising ss → unknown_serial us ss ≡ None → length ss ≤ length us
few_known [] us r k = omega arith
few_known (s ∷ ss) us r k =
    ⊎_elim
    (λ (e : list_any (has_serial s) us ≡ true).
    let rest : unknown_serial us ss ≡ None = rw e at k in
    omega (arith, count-less s us e, few-above s ss us r rest))
    (λ (e : list_any (has_serial s) us ≡ false). let z : Some s ≡ None = rw e at k in absurd (cc))
    (cases_Bool (list_any (has_serial s) us))

-- ==== serials of the ring differ

rise-none : (low s : ℕ) (xs : List ℕ) (high : ℕ) → Rise low xs high → s ≤ low → is_among xs s ≡ false
rise-none low s [] high r h = refl
rise-none low s (x ∷ xs) high r h =
    let no : eqb x s ≡ false = ne_eqb x s (λ q. omega (arith, r.0, h, q)) in
    rw no (rise-none x s xs high r.1 (omega (arith, r.0, h)))

pub laid_differ : (d : DeviceState) → IsSound d → Differ (serials_in d.ring.laid)
laid_differ d h = differ_front (serials_in d.ring.laid) (delayed_serials d.delayed) (rise_differ 0 (serials_in d.ring.laid ++ delayed_serials d.delayed) d.accepted h.serials.rise)

-- ==== what is cleared is of commands that are finished

filter-passes : (p : ℕ → Bool) (xs : List ℕ) → Every (λ s. p s ≡ true) (filter p xs)
filter-passes p [] = tt
filter-passes p (x ∷ xs) =
    ⊎_elim
    (λ (e : p x ≡ true). rw e (e, filter-passes p xs))
    (λ (e : p x ≡ false). rw e (filter-passes p xs))
    (cases_Bool (p x))

away-map : (gone : List ℕ) (us : List Unfinished) → Every (λ s. not (is_among gone s) ≡ true) (map (λ u. u.serial) us) → AreAway gone us
away-map gone [] h = tt
away-map gone (u ∷ us) h = (not_true (is_among gone u.serial) h.0, away-map gone us h.1)

-- no unfinished command is finished
pub away : (d : DeviceState) → IsSound d → AreAway (finished d) d.unfinished
away d h =
    let p : ℕ → Bool = λ s. not (is_among (finished d) s) in
    away-map (finished d) d.unfinished (subst (λ (xs : List ℕ). Every (λ s. p s ≡ true) xs) (sym h.serials.order) (filter-passes p (serials_in d.ring.laid)))

-- ==== a command that is laid comes behind the others

below-high : (low : ℕ) (xs ys : List ℕ) (high : ℕ) → Rise low (xs ++ ys) high → Every (λ s. s < high + 1) xs
below-high low [] ys high r = tt
below-high low (x ∷ xs) ys high r = (omega (arith, rise_order x (xs ++ ys) high r.1), below-high x xs ys high r.1)

before-next : (low : ℕ) (xs : List ℕ) (y : ℕ) (ys : List ℕ) (high : ℕ) → Rise low (xs ++ y ∷ ys) high → (low < y) × Every (λ s. s < y) xs
before-next low [] y ys high r = (r.0, tt)
before-next low (x ∷ xs) y ys high r =
    let t = before-next x xs y ys high r.1 in
    (omega (arith, r.0, t.0), (t.0, t.1))

-- the next serial is above those of all commands
pub rows_below : (d : DeviceState) → IsSound d → Every (λ s. s < d.accepted + 1) (serials_of d.unfinished)
rows_below d h =
    let laid = serials_in d.ring.laid in
    let all : Every (λ s. s < d.accepted + 1) laid = below-high 0 laid (delayed_serials d.delayed) d.accepted h.serials.rise in
    subst (λ (xs : List ℕ). Every (λ s. s < d.accepted + 1) xs) (sym h.serials.order) (every-filter (λ s. not (is_among (finished d) s)) (λ s. s < d.accepted + 1) laid all)

-- and so is that of the first delayed command
pub rows_before : (d : DeviceState) (w : Delayed) (ws : List Delayed) → IsSound d → d.delayed ≡ w ∷ ws → Every (λ s. s < w.serial) (serials_of d.unfinished)
rows_before d w ws h e =
    let laid = serials_in d.ring.laid in
    let rise : Rise 0 (laid ++ w.serial ∷ delayed_serials ws) d.accepted = subst (λ (xs : List Delayed). Rise 0 (laid ++ delayed_serials xs) d.accepted) e h.serials.rise in
    let all : Every (λ s. s < w.serial) laid = (before-next 0 laid w.serial (delayed_serials ws) d.accepted rise).1 in
    subst (λ (xs : List ℕ). Every (λ s. s < w.serial) xs) (sym h.serials.order) (every-filter (λ s. not (is_among (finished d) s)) (λ s. s < w.serial) laid all)
