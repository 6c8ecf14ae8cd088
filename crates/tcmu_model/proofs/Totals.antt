-- How many commands are open: those accepted that are not in the log.
use Rattle.std.proofs.Common.{◌≡◌, ℕ, ◌+◌, ◌<◌, ◌≤◌, Bool, true, false, cond, List, [], ◌∷◌, length, refl, ap, arith, ⊎_elim, ◌&&◌, eqb, suc, zero}
use Rattle.std.specs.List.{count_by, sum_by}
use Rattle.std.proofs.lemmas.Bool.{cases_Bool, eqb-true, eqb-false, ne_eqb}
use Rattle.std.proofs.lemmas.List.Sums.{sum_by-cons}
use Rattle.tcmu_types.specs.Data.{DoneData}
use Rattle.tcmu_model.specs.RingState.{serials_in}
use Rattle.tcmu_model.specs.Device.{Unfinished, Delayed, DeviceState}
use Rattle.tcmu_model.specs.Events.{is_open}
use Rattle.tcmu_model.specs.Sound.{open_count, times_logged, is_open_at, is_delayed_at, delayed_serials, IsSound}
use Rattle.tcmu_types.specs.Lists.{Every}
use Rattle.tcmu_types.proofs.Everies.{every-weaker, every-mapped, every-back}
use Rattle.tcmu_types.proofs.Rises.{rise_within}
use Rattle.tcmu_model.proofs.Basics.{rows_rise}
use Rattle.tcmu_model.proofs.Accounts.{log_accepted, each_once}

-- the sum over 1 to n
up : ℕ → (ℕ → ℕ) → ℕ
up zero f = 0
up (suc n) f = up n f + f (suc n)

up-same : (n : ℕ) (f g : ℕ → ℕ) → ((k : ℕ) → 1 ≤ k → k ≤ n → f k ≡ g k) → up n f ≡ up n g
unfolding up
up-same zero f g h = refl
up-same (suc n) f g h = omega (arith, up-same n f g (λ k l m. h k l (omega (arith, m))), h (suc n) (omega arith) (omega arith))

up-sum : (n : ℕ) (f g : ℕ → ℕ) → up n (λ k. f k + g k) ≡ up n f + up n g
unfolding up
up-sum zero f g = refl
up-sum (suc n) f g = omega (arith, up-sum n f g)

up-zero : (n : ℕ) → up n (λ k. 0) ≡ 0
unfolding up
up-zero zero = refl
up-zero (suc n) = omega (arith, up-zero n)

up-one : (n : ℕ) → up n (λ k. 1) ≡ n
unfolding up
up-one zero = refl
up-one (suc n) = omega (arith, up-one n)

-- a weight that stands at one number of the range
up-at : (n s w : ℕ) → 1 ≤ s → s ≤ n → up n (λ k. cond (eqb s k) w 0) ≡ w
unfolding up
up-at zero s w l m = absurd (omega (arith, l, m))
up-at (suc n) s w l m =
    ⊎_elim
    (λ (e : eqb s (suc n) ≡ true).
    let q : s ≡ suc n = eqb-true s (suc n) e in
    let a : up n (λ k. cond (eqb s k) w 0) ≡ up n (λ k. 0) = up-same n (λ k. cond (eqb s k) w 0) (λ k. 0) (λ k a b. let z : eqb s k ≡ false = ne_eqb s k (λ r. never k b q r) in ap (λ t. cond {A = ℕ} t w 0) z) in
    let c : cond {A = ℕ} (eqb s (suc n)) w 0 ≡ w = ap (λ t. cond {A = ℕ} t w 0) e in
    omega (arith, a, c, up-zero n))
    (λ (e : eqb s (suc n) ≡ false).
    let c : cond {A = ℕ} (eqb s (suc n)) w 0 ≡ 0 = ap (λ t. cond {A = ℕ} t w 0) e in
    let d : s ≤ n = below s n m (eqb-false s (suc n) e) in
    omega (arith, c, up-at n s w l d))
    (cases_Bool (eqb s (suc n)))
  where
    never : (k : ℕ) → k ≤ n → s ≡ suc n → s ≡ k → ⊥
    never k b q r = omega arith

    below : (s n : ℕ) → s ≤ suc n → (s ≡ suc n → ⊥) → s ≤ n
    below s n m e = omega (arith, m, e)

-- a list whose members' numbers lie in the range is counted by them
up-list : {X : Type 0} (n : ℕ) (g : X → ℕ) (w : X → ℕ) (xs : List X) → Every (λ x. (1 ≤ g x) × (g x ≤ n)) xs → up n (λ k. sum_by (λ x. cond (eqb (g x) k) (w x) 0) xs) ≡ sum_by w xs
up-list n g w [] h = up-zero n
up-list n g w (x ∷ xs) h =
    let a : up n (λ k. sum_by (λ x. cond (eqb (g x) k) (w x) 0) (x ∷ xs)) ≡ up n (λ k. cond (eqb (g x) k) (w x) 0 + sum_by (λ x. cond (eqb (g x) k) (w x) 0) xs) =
    up-same n (λ k. sum_by (λ x. cond (eqb (g x) k) (w x) 0) (x ∷ xs)) (λ k. cond (eqb (g x) k) (w x) 0 + sum_by (λ x. cond (eqb (g x) k) (w x) 0) xs) (λ k l m. sum_by-cons (λ x. cond {A = ℕ} (eqb (g x) k) (w x) 0) x xs) in
    omega (arith, a, up-sum n (λ k. cond (eqb (g x) k) (w x) 0) (λ k. sum_by (λ x. cond (eqb (g x) k) (w x) 0) xs), up-at n (g x) (w x) h.0.0 h.0.1, up-list n g w xs h.1, sum_by-cons w x xs)

delayed_within : (d : DeviceState) → IsSound d → Every (λ w. (1 ≤ w.serial) × (w.serial ≤ d.accepted)) d.delayed
delayed_within d h =
    every-mapped (λ (w : Delayed). w.serial) (λ s. (1 ≤ s) × (s ≤ d.accepted)) d.delayed
    (every-back (λ s. (1 ≤ s) × (s ≤ d.accepted)) (serials_in d.ring.laid) (delayed_serials d.delayed)
    (every-weaker (λ s. (0 < s) × (s ≤ d.accepted)) (λ s. (1 ≤ s) × (s ≤ d.accepted)) _ (λ s k. (omega (arith, k.0), k.1)) (rise_within 0 _ d.accepted h.serials.rise)))

rows_within : (d : DeviceState) → IsSound d → Every (λ u. (1 ≤ u.serial) × (u.serial ≤ d.accepted)) d.unfinished
rows_within d h =
    every-mapped (λ (u : Unfinished). u.serial) (λ s. (1 ≤ s) × (s ≤ d.accepted)) d.unfinished
    (every-weaker (λ s. (0 < s) × (s ≤ d.accepted)) (λ s. (1 ≤ s) × (s ≤ d.accepted)) _ (λ s k. (omega (arith, k.0), k.1)) (rise_within 0 _ d.accepted (rows_rise d h.serials)))

sum-same : {X : Type 0} (f g : X → ℕ) (xs : List X) → ((x : X) → f x ≡ g x) → sum_by f xs ≡ sum_by g xs
sum-same f g [] h = refl
sum-same f g (x ∷ xs) h = omega (arith, sum_by-cons f x xs, sum_by-cons g x xs, h x, sum-same f g xs h)

sum-ones : {X : Type 0} (xs : List X) → sum_by (λ x. 1) xs ≡ length xs
sum-ones [] = refl
sum-ones (x ∷ xs) = omega (arith, sum_by-cons (λ y. 1) x xs, sum-ones xs)

-- what is accepted is logged or open
pub open_rest : (d : DeviceState) → IsSound d → length d.log + open_count d ≡ d.accepted
open_rest d h =
    let n : ℕ = d.accepted in
    let once : up n (λ k. times_logged d.log k + (count_by (is_open_at k) d.unfinished + count_by (is_delayed_at k) d.delayed)) ≡ up n (λ k. 1) = up-same n _ (λ k. 1) (λ k l m. each_once d k h l m) in
    let s1 = up-sum n (times_logged d.log) (λ k. count_by (is_open_at k) d.unfinished + count_by (is_delayed_at k) d.delayed) in
    let s2 = up-sum n (λ k. count_by (is_open_at k) d.unfinished) (λ k. count_by (is_delayed_at k) d.delayed) in
    let a : up n (times_logged d.log) ≡ sum_by (λ e. 1) d.log = up-list n (λ (e : DoneData). e.serial) (λ e. 1) d.log (log_accepted d h) in
    let b0 : up n (λ k. count_by (is_open_at k) d.unfinished) ≡ up n (λ k. sum_by (λ u. cond (eqb u.serial k) (cond (is_open u) 1 0) 0) d.unfinished) =
    up-same n (λ k. count_by (is_open_at k) d.unfinished) (λ k. sum_by (λ u. cond (eqb u.serial k) (cond (is_open u) 1 0) 0) d.unfinished)
    (λ k l m. sum-same (λ u. cond {A = ℕ} (is_open_at k u) 1 0) (λ u. cond (eqb u.serial k) (cond (is_open u) 1 0) 0) d.unfinished (λ u. both (eqb u.serial k) (is_open u))) in
    let b : up n (λ k. sum_by (λ u. cond (eqb u.serial k) (cond (is_open u) 1 0) 0) d.unfinished) ≡ count_by is_open d.unfinished = up-list n (λ (u : Unfinished). u.serial) (λ u. cond (is_open u) 1 0) d.unfinished (rows_within d h) in
    let c : up n (λ k. count_by (is_delayed_at k) d.delayed) ≡ sum_by (λ w. 1) d.delayed = up-list n (λ (w : Delayed). w.serial) (λ w. 1) d.delayed (delayed_within d h) in
    omega (arith, once, s1, s2, a, b0, b, c, up-one n, sum-ones d.log, sum-ones d.delayed)
  where
    both : (x y : Bool) → cond {A = ℕ} (x && y) 1 0 ≡ cond x (cond y 1 0) 0
    both true y = refl
    both false y = refl
