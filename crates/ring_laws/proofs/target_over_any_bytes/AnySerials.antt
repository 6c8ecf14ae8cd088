-- What it says of the log that each accepted serial stands in one place.
use Rattle.std.proofs.Common.{◌≡◌, ℕ, ◌+◌, ◌<◌, ◌≤◌, true, false, cond, eqb, ltb, leb, List, [], ◌∷◌, ◌++◌, map, refl, arith}
use Rattle.std.proofs.lemmas.Bool.{and_parts, ltb-true, leb-true, le-leb, ne_eqb}
use Rattle.std.proofs.lemmas.List.Sums.{sum_by-cons}
use Rattle.tcmu_types.specs.Data.{DoneData}
use Rattle.tcmu_model.specs.Device.{Delayed}
use Rattle.tcmu_model.specs.Sound.{times_logged, delayed_serials, is_delayed_at}
use Rattle.tcmu_types.specs.Numbers.{Rise, Differ}
use Rattle.tcmu_types.specs.Lists.{Every}
use Rattle.region_model.specs.Sides.{PendingRow, TargetState}
use Rattle.tcmu_types.proofs.Everies.{every-weaker, every-both, every-mapped, every-front}
use Rattle.tcmu_types.proofs.Rises.{rise_within}
use Rattle.ring_laws.specs.Calls.{is_pending_at, times_pending, times_delayed, is_given, TargetSound}
use Rattle.tcmu_model.proofs.Accounts.{once_differ, some_logged, at_most_one, some_one}
use Rattle.tcmu_types.proofs.Counts.{counts_none}

-- no serial stands twice in the log
pub logged_once : (t : TargetState) → TargetSound t → Differ (map (λ (e : DoneData). e.serial) t.log)
logged_once t h = once_differ t.log (λ k. omega (arith, h.serials.accounted k, at_most_one (is_given t.accepted k)))

-- each that stands there was accepted
pub logged_accepted : (t : TargetState) → TargetSound t → Every (λ e. (1 ≤ e.serial) × (e.serial ≤ t.accepted)) t.log
logged_accepted t h =
    some_logged (λ k. (1 ≤ k) × (k ≤ t.accepted)) t.log
    (λ k l.
    let a : is_given t.accepted k ≡ true = some_one (is_given t.accepted k) (omega (arith, h.serials.accounted k, l)) in
    let p : (ltb 0 k ≡ true) × (leb k t.accepted ≡ true) = and_parts _ _ a in
    (omega (arith, ltb-true 0 k p.0), leb-true k t.accepted p.1))

-- ==== a pending command that expired is in the log

abbrev serials : List PendingRow → List ℕ
serials rows = map (λ (e : PendingRow). e.pending.serial) rows

cons_pending : (e : PendingRow) (rows : List PendingRow) (k : ℕ) → times_pending (e ∷ rows) k ≡ cond (is_pending_at k e) 1 0 + times_pending rows k
cons_pending e rows k = sum_by-cons (λ (v : PendingRow). cond {A = ℕ} (is_pending_at k v) 1 0) e rows

cons_delayed : (w : Delayed) (ws : List Delayed) (k : ℕ) → times_delayed (w ∷ ws) k ≡ cond (eqb w.serial k) 1 0 + times_delayed ws k
cons_delayed w ws k = sum_by-cons (λ (v : Delayed). cond {A = ℕ} (is_delayed_at k v) 1 0) w ws

above_not : (low n k : ℕ) → low < n → k ≤ low → eqb n k ≡ false
above_not low n k l m = ne_eqb n k (λ q. apart q)
  where
    apart : n ≡ k → ⊥
    apart q = omega arith

none_delayed : (ws : List Delayed) (low high k : ℕ) → Rise low (delayed_serials ws) high → k ≤ low → times_delayed ws k ≡ 0
none_delayed [] low high k r l = refl
none_delayed (w ∷ ws) low high k r l =
    let z : eqb w.serial k ≡ false = above_not low w.serial k r.0 l in
    let x : cond {A = ℕ} (eqb w.serial k) 1 0 ≡ 0 = rw z refl in
    omega (arith, cons_delayed w ws k, x, none_delayed ws w.serial high k r.1 (omega (arith, l, r.0)))

-- a serial below all others is in none of them
none_open : (rows : List PendingRow) (ws : List Delayed) (low high k : ℕ) → Rise low (serials rows ++ delayed_serials ws) high → k ≤ low → times_pending rows k + times_delayed ws k ≡ 0
none_open [] ws low high k r l = let a : times_delayed ws k ≡ 0 = none_delayed ws low high k r l in omega (arith, a)
none_open (e ∷ rows) ws low high k r l =
    let z : eqb e.pending.serial k ≡ false = above_not low e.pending.serial k r.0 l in
    let x : cond {A = ℕ} (is_pending_at k e) 1 0 ≡ 0 = rw z refl in
    omega (arith, cons_pending e rows k, x, none_open rows ws e.pending.serial high k r.1 (omega (arith, l, r.0)))

behind : (low : ℕ) (rows : List PendingRow) (ws : List Delayed) (high : ℕ) → Rise low (serials rows ++ delayed_serials ws) high → Every (λ (e : PendingRow). (low < e.pending.serial) × (e.pending.serial ≤ high)) rows
behind low rows ws high r =
    every-mapped (λ (e : PendingRow). e.pending.serial) (λ k. (low < k) × (k ≤ high)) rows
    (every-front (λ k. (low < k) × (k ≤ high)) (serials rows) (delayed_serials ws) (rise_within low (serials rows ++ delayed_serials ws) high r))

expired_closed : (rows : List PendingRow) (ws : List Delayed) (low high : ℕ) → Rise low (serials rows ++ delayed_serials ws) high →
    Every (λ (e : PendingRow). e.pending.expired ≡ true → times_pending rows e.pending.serial + times_delayed ws e.pending.serial ≡ 0) rows
expired_closed [] ws low high r = tt
expired_closed (e ∷ rows) ws low high r = (
  (λ x.
      let z : cond {A = ℕ} (is_pending_at e.pending.serial e) 1 0 ≡ 0 = rw x (counts_none (eqb e.pending.serial e.pending.serial)) in
      omega (arith, cons_pending e rows e.pending.serial, z, none_open rows ws e.pending.serial high e.pending.serial r.1 (omega arith))),
  every-weaker
      (λ (v : PendingRow). (v.pending.expired ≡ true → times_pending rows v.pending.serial + times_delayed ws v.pending.serial ≡ 0) × ((e.pending.serial < v.pending.serial) × (v.pending.serial ≤ high)))
      (λ (v : PendingRow). v.pending.expired ≡ true → times_pending (e ∷ rows) v.pending.serial + times_delayed ws v.pending.serial ≡ 0) rows
      (λ v k x.
      let z : eqb e.pending.serial v.pending.serial ≡ false = below_not e.pending.serial v.pending.serial k.1.0 in
      let y : cond {A = ℕ} (is_pending_at v.pending.serial e) 1 0 ≡ 0 = rw z refl in
      omega (arith, cons_pending e rows v.pending.serial, y, k.0 x))
      (every-both (λ (v : PendingRow). v.pending.expired ≡ true → times_pending rows v.pending.serial + times_delayed ws v.pending.serial ≡ 0)
      (λ (v : PendingRow). (e.pending.serial < v.pending.serial) × (v.pending.serial ≤ high)) rows
      (expired_closed rows ws e.pending.serial high r.1) (behind e.pending.serial rows ws high r.1)),
)
  where
    below_not : (a b : ℕ) → a < b → eqb a b ≡ false
    below_not a b l = ne_eqb a b (λ q. apart q)
      where
        apart : a ≡ b → ⊥
        apart q = omega arith

pub expired_logged : (t : TargetState) → TargetSound t → Every (λ e. e.pending.expired ≡ true → times_logged t.log e.pending.serial ≡ 1) t.rows
expired_logged t h =
    every-weaker
    (λ (e : PendingRow). (e.pending.expired ≡ true → times_pending t.rows e.pending.serial + times_delayed t.delayed e.pending.serial ≡ 0) × ((0 < e.pending.serial) × (e.pending.serial ≤ t.accepted)))
    (λ (e : PendingRow). e.pending.expired ≡ true → times_logged t.log e.pending.serial ≡ 1) t.rows
    (λ e k x.
    let s : ℕ = e.pending.serial in
    let low : 0 < s = k.1.0 in
    let a : ltb 0 s ≡ true = le-leb 1 s (omega (arith, low)) in
    let b : leb s t.accepted ≡ true = le-leb s t.accepted k.1.1 in
    let c : cond {A = ℕ} (is_given t.accepted s) 1 0 ≡ 1 = rw (a, b) refl in
    omega (arith, h.serials.accounted s, c, k.0 x))
    (every-both (λ (e : PendingRow). e.pending.expired ≡ true → times_pending t.rows e.pending.serial + times_delayed t.delayed e.pending.serial ≡ 0)
    (λ (e : PendingRow). (0 < e.pending.serial) × (e.pending.serial ≤ t.accepted)) t.rows
    (expired_closed t.rows t.delayed 0 t.accepted h.serials.rise) (behind 0 t.rows t.delayed t.accepted h.serials.rise))
