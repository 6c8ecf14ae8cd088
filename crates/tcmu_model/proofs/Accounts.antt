-- Each accepted serial is once in the log or open: what this says of the log.
use Rattle.std.proofs.Common.{◌≡◌, ℕ, ◌+◌, ◌<◌, ◌≤◌, Bool, true, false, cond, List, [], ◌∷◌, map, refl, ◌∙◌, arith, ⊎_elim, ◌&&◌, eqb, ltb, leb}
use Rattle.std.specs.List.{count_by}
use Rattle.std.proofs.lemmas.Bool.{cases_Bool, and_parts, ltb-true, leb-true, le-leb, eq-eqb, ne_eqb}
use Rattle.std.proofs.lemmas.List.Sums.{sum_by-cons}
use Rattle.tcmu_types.specs.Data.{DoneData}
use Rattle.tcmu_model.specs.RingState.{serials_in}
use Rattle.tcmu_model.specs.Device.{Unfinished, Delayed, DeviceState}
use Rattle.tcmu_types.specs.Numbers.{is_among, Rise, Differ}
use Rattle.tcmu_model.specs.Sound.{times_logged, times_open, is_accepted, is_open_at, is_delayed_at, IsSound}
use Rattle.tcmu_types.specs.Lists.{Every}
use Rattle.tcmu_types.proofs.Everies.{every-weaker, every-both, every-mapped}
use Rattle.tcmu_types.proofs.Rises.{rise_within, among_every}
use Rattle.tcmu_model.proofs.Basics.{rows_rise, rows_among}
use Rattle.tcmu_model.proofs.Facts.{delayed_above}

pub cons_logged : (e : DoneData) (es : List DoneData) (k : ℕ) → times_logged (e ∷ es) k ≡ cond (eqb e.serial k) 1 0 + times_logged es k
cons_logged e es k = sum_by-cons (λ (x : DoneData). cond {A = ℕ} (eqb x.serial k) 1 0) e es

pub counts_itself : (n : ℕ) → cond {A = ℕ} (eqb n n) 1 0 ≡ 1
counts_itself n = let z : eqb n n ≡ true = eq-eqb n n refl in rw z refl

pub not_logged : (es : List DoneData) (k : ℕ) → times_logged es k ≡ 0 → is_among (map (λ e. e.serial) es) k ≡ false
not_logged [] k h = refl
not_logged (e ∷ es) k h =
    ⊎_elim
    (λ (z : eqb e.serial k ≡ true). let w : cond {A = ℕ} (eqb e.serial k) 1 0 ≡ 1 = rw z refl in absurd (omega (arith, cons_logged e es k, w, h)))
    (λ (z : eqb e.serial k ≡ false). rw z (not_logged es k (omega (arith, cons_logged e es k, h))))
    (cases_Bool (eqb e.serial k))

pub once_differ : (es : List DoneData) → ((k : ℕ) → times_logged es k ≤ 1) → Differ (map (λ e. e.serial) es)
once_differ [] h = tt
once_differ (e ∷ es) h =
    (not_logged es e.serial (omega (arith, cons_logged e es e.serial, counts_itself e.serial, h e.serial)), once_differ es (λ k. omega (arith, cons_logged e es k, h k)))

pub some_logged : (B : ℕ → Type 0) (es : List DoneData) → ((k : ℕ) → 1 ≤ times_logged es k → B k) → Every (λ e. B e.serial) es
some_logged B [] h = tt
some_logged B (e ∷ es) h =
    (h e.serial (omega (arith, cons_logged e es e.serial, counts_itself e.serial)), some_logged B es (λ k l. h k (omega (arith, cons_logged e es k, l))))

pub at_most_one : (b : Bool) → cond {A = ℕ} b 1 0 ≤ 1
at_most_one true = omega arith
at_most_one false = omega arith

pub some_one : (b : Bool) → 1 ≤ cond {A = ℕ} b 1 0 → b ≡ true
some_one true h = refl
some_one false h = absurd (omega (arith, h))

-- no serial stands twice in the log
pub log_differs : (d : DeviceState) → IsSound d → Differ (map (λ e. e.serial) d.log)
log_differs d h = once_differ d.log (λ k. omega (arith, h.serials.accounted k, at_most_one (is_accepted d k)))

-- each that stands there was accepted
pub log_accepted : (d : DeviceState) → IsSound d → Every (λ e. (1 ≤ e.serial) × (e.serial ≤ d.accepted)) d.log
log_accepted d h =
    some_logged (λ k. (1 ≤ k) × (k ≤ d.accepted)) d.log
    (λ k l.
    let a : is_accepted d k ≡ true = some_one (is_accepted d k) (omega (arith, h.serials.accounted k, l)) in
    let p : (ltb 0 k ≡ true) × (leb k d.accepted ≡ true) = and_parts _ _ a in
    (omega (arith, ltb-true 0 k p.0), leb-true k d.accepted p.1))

-- each accepted serial is once in the log, or once open
pub each_once : (d : DeviceState) (s : ℕ) → IsSound d → 1 ≤ s → s ≤ d.accepted → times_logged d.log s + times_open d s ≡ 1
each_once d s h l m =
    let a : ltb 0 s ≡ true = le-leb 1 s l in
    let b : leb s d.accepted ≡ true = le-leb s d.accepted m in
    let c : cond {A = ℕ} (is_accepted d s) 1 0 ≡ 1 = rw (a, b) refl in
    h.serials.accounted s ∙ c

-- ==== an unfinished command that expired is in the log

none_open : (us : List Unfinished) (low high k : ℕ) → Rise low (map (λ u. u.serial) us) high → k ≤ low → count_by (is_open_at k) us ≡ 0
none_open [] low high k r l = refl
none_open (u ∷ us) low high k r l =
    let a : count_by (is_open_at k) (u ∷ us) ≡ cond (is_open_at k u) 1 0 + count_by (is_open_at k) us = sum_by-cons (λ (v : Unfinished). cond {A = ℕ} (is_open_at k v) 1 0) u us in
    let z : eqb u.serial k ≡ false = ne_eqb u.serial k (λ q. never u.serial r.0 q) in
    let w : cond {A = ℕ} (is_open_at k u) 1 0 ≡ 0 = rw z refl in
    omega (arith, a, w, none_open us u.serial high k r.1 (omega (arith, l, r.0)))
  where
    never : (n : ℕ) → low < n → n ≡ k → ⊥
    never n m q = omega arith

-- a serial of an expired command is not open
expired_closed : (us : List Unfinished) (low high : ℕ) → Rise low (map (λ u. u.serial) us) high → Every (λ u. u.expired ≡ true → count_by (is_open_at u.serial) us ≡ 0) us
expired_closed [] low high r = tt
expired_closed (u ∷ us) low high r = (
  (λ e.
      let a : count_by (is_open_at u.serial) (u ∷ us) ≡ cond (is_open_at u.serial u) 1 0 + count_by (is_open_at u.serial) us = sum_by-cons (λ (v : Unfinished). cond {A = ℕ} (is_open_at u.serial v) 1 0) u us in
      let w : cond {A = ℕ} (is_open_at u.serial u) 1 0 ≡ 0 = rw e (closed (eqb u.serial u.serial)) in
      omega (arith, a, w, none_open us u.serial high u.serial r.1 (omega arith))),
  every-weaker (λ v. (v.expired ≡ true → count_by (is_open_at v.serial) us ≡ 0) × (u.serial < v.serial)) (λ v. v.expired ≡ true → count_by (is_open_at v.serial) (u ∷ us) ≡ 0) us
      (λ v k e.
      let a : count_by (is_open_at v.serial) (u ∷ us) ≡ cond (is_open_at v.serial u) 1 0 + count_by (is_open_at v.serial) us = sum_by-cons (λ (x : Unfinished). cond {A = ℕ} (is_open_at v.serial x) 1 0) u us in
      let z : eqb u.serial v.serial ≡ false = ne_eqb u.serial v.serial (λ q. less u.serial v.serial k.1 q) in
      let w : cond {A = ℕ} (is_open_at v.serial u) 1 0 ≡ 0 = rw z refl in
      omega (arith, a, w, k.0 e))
      (every-both (λ v. v.expired ≡ true → count_by (is_open_at v.serial) us ≡ 0) (λ v. u.serial < v.serial) us (expired_closed us u.serial high r.1) (behind us u.serial r.1)),
)
  where
    closed : (b : Bool) → cond {A = ℕ} (b && false) 1 0 ≡ 0
    closed true = refl
    closed false = refl

    less : (a b : ℕ) → a < b → a ≡ b → ⊥
    less a b l q = omega arith

    behind : (us : List Unfinished) (low : ℕ) → Rise low (map (λ v. v.serial) us) high → Every (λ v. low < v.serial) us
    behind [] low r = tt
    behind (v ∷ us) low r = (r.0, every-weaker (λ x. v.serial < x.serial) (λ x. low < x.serial) us (λ x l. omega (arith, l, r.0)) (behind us v.serial r.1))

none_delayed : (ws : List Delayed) (k : ℕ) → Every (λ w. k < w.serial) ws → count_by (is_delayed_at k) ws ≡ 0
none_delayed [] k h = refl
none_delayed (w ∷ ws) k h =
    let a : count_by (is_delayed_at k) (w ∷ ws) ≡ cond (eqb w.serial k) 1 0 + count_by (is_delayed_at k) ws = sum_by-cons (λ (v : Delayed). cond {A = ℕ} (is_delayed_at k v) 1 0) w ws in
    let z : eqb w.serial k ≡ false = ne_eqb w.serial k (λ q. never w.serial h.0 q) in
    let x : cond {A = ℕ} (eqb w.serial k) 1 0 ≡ 0 = rw z refl in
    omega (arith, a, x, none_delayed ws k h.1)
  where
    never : (n : ℕ) → k < n → n ≡ k → ⊥
    never n m q = omega arith

pub expired_logged : (d : DeviceState) → IsSound d → Every (λ u. u.expired ≡ true → times_logged d.log u.serial ≡ 1) d.unfinished
expired_logged d h =
    every-weaker (λ u. ((u.expired ≡ true → count_by (is_open_at u.serial) d.unfinished ≡ 0) × ((0 < u.serial) × (u.serial ≤ d.accepted))) × (is_among (serials_in d.ring.laid) u.serial ≡ true))
    (λ u. u.expired ≡ true → times_logged d.log u.serial ≡ 1) d.unfinished
    (λ u k e.
    let once : times_logged d.log u.serial + times_open d u.serial ≡ 1 = each_once d u.serial h (omega (arith, k.0.1.0)) k.0.1.1 in
    let above : Every (λ w. u.serial < w.serial) d.delayed = every-weaker (λ w. Every (λ s. s < w.serial) (serials_in d.ring.laid)) (λ w. u.serial < w.serial) d.delayed
    (λ w z. among_every (λ s. s < w.serial) (serials_in d.ring.laid) u.serial z k.1) (delayed_above d h) in
    omega (arith, once, k.0.0 e, none_delayed d.delayed u.serial above))
    (every-both (λ u. (u.expired ≡ true → count_by (is_open_at u.serial) d.unfinished ≡ 0) × ((0 < u.serial) × (u.serial ≤ d.accepted))) (λ u. is_among (serials_in d.ring.laid) u.serial ≡ true) d.unfinished
    (every-both (λ u. u.expired ≡ true → count_by (is_open_at u.serial) d.unfinished ≡ 0) (λ u. (0 < u.serial) × (u.serial ≤ d.accepted)) d.unfinished
    (expired_closed d.unfinished 0 d.accepted (rows_rise d h.serials)) (every-mapped (λ (u : Unfinished). u.serial) (λ s. (0 < s) × (s ≤ d.accepted)) d.unfinished (rise_within 0 (map (λ u. u.serial) d.unfinished) d.accepted (rows_rise d h.serials))))
    (rows_among d h.serials))
