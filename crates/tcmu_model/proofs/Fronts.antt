-- The longest front with so many commands.
use Rattle.std.proofs.Common.{◌≡◌, ℕ, ◌+◌, ◌-◌, ◌≤◌, true, false, cond, eqb, List, [], ◌∷◌, length, take, ap, arith, ⊎_elim, suc, zero, add-one, subst}
use Rattle.std.proofs.lemmas.List.Sums.{sum_by-cons, sum_by-take-le}
use Rattle.std.proofs.lemmas.List.{take-take}
use Rattle.std.proofs.lemmas.Bool.{cases_Bool, eqb-true, eqb-false}
use Rattle.tcmu_model.specs.RingState.{Item, is_command, commands_in, front_with}

pub commands_cons : (m : ℕ) (x : Item) (xs : List Item) → commands_in (take (m + 1) (x ∷ xs)) ≡ cond (is_command x) 1 0 + commands_in (take m xs)
commands_cons m x xs = rw add-one (sum_by-cons (λ y. cond (is_command y) 1 0) x (take m xs))

-- it holds no more
pub front_holds : (n : ℕ) (xs : List Item) → commands_in (take (front_with n xs) xs) ≤ n
front_holds n [] = omega arith
front_holds n (x ∷ xs) =
    ⊎_elim
    (λ (e : is_command x ≡ true).
    ⊎_elim
    (λ (z : eqb n 0 ≡ true). rw (e, z) (omega arith))
    (λ (z : eqb n 0 ≡ false).
    let t : commands_in (take (front_with (n - 1) xs + 1) (x ∷ xs)) ≡ cond (is_command x) 1 0 + commands_in (take (front_with (n - 1) xs) xs) = commands_cons (front_with (n - 1) xs) x xs in
    let one : ◌≡◌ {A = ℕ} (cond (is_command x) 1 0) 1 = ap (λ b. cond b 1 0) e in
    let ih : commands_in (take (front_with (n - 1) xs) xs) ≤ n - 1 = front_holds (n - 1) xs in
    let pos : n ≡ 0 → ⊥ = eqb-false n 0 z in
    let r : commands_in (take (front_with (n - 1) xs + 1) (x ∷ xs)) ≤ n = omega (arith, t, one, ih, pos) in
    rw (e, z) r)
    (cases_Bool (eqb n 0)))
    (λ (e : is_command x ≡ false).
    let t : commands_in (take (front_with n xs + 1) (x ∷ xs)) ≡ cond (is_command x) 1 0 + commands_in (take (front_with n xs) xs) = commands_cons (front_with n xs) x xs in
    let one : ◌≡◌ {A = ℕ} (cond (is_command x) 1 0) 0 = ap (λ b. cond b 1 0) e in
    let ih : commands_in (take (front_with n xs) xs) ≤ n = front_holds n xs in
    let r : commands_in (take (front_with n xs + 1) (x ∷ xs)) ≤ n = omega (arith, t, one, ih) in
    rw e r)
    (cases_Bool (is_command x))

-- every front that holds no more is no longer
pub front_longest : (n k : ℕ) (xs : List Item) → k ≤ length xs → commands_in (take k xs) ≤ n → k ≤ front_with n xs
front_longest n k [] l h = omega (arith, l)
front_longest n zero (x ∷ xs) l h = omega arith
front_longest n (suc k) (x ∷ xs) l h =
    let t : commands_in (take (suc k) (x ∷ xs)) ≡ cond (is_command x) 1 0 + commands_in (take k xs) = sum_by-cons (λ y. cond (is_command y) 1 0) x (take k xs) in
    let m : k ≤ length xs = omega (arith, l) in
    ⊎_elim
    (λ (e : is_command x ≡ true).
    let one : ◌≡◌ {A = ℕ} (cond (is_command x) 1 0) 1 = ap (λ b. cond b 1 0) e in
    ⊎_elim
    (λ (z : eqb n 0 ≡ true). absurd (omega (arith, t, one, h, eqb-true n 0 z)))
    (λ (z : eqb n 0 ≡ false).
    let ih : k ≤ front_with (n - 1) xs = front_longest (n - 1) k xs m (omega (arith, t, one, h)) in
    rw (e, z) (omega (arith, ih)))
    (cases_Bool (eqb n 0)))
    (λ (e : is_command x ≡ false).
    let one : ◌≡◌ {A = ℕ} (cond (is_command x) 1 0) 0 = ap (λ b. cond b 1 0) e in
    let ih : k ≤ front_with n xs = front_longest n k xs m (omega (arith, t, one, h)) in
    rw e (omega (arith, ih)))
    (cases_Bool (is_command x))

-- a longer front holds at least as many commands
pub commands_more : (j k : ℕ) (xs : List Item) → j ≤ k → commands_in (take j xs) ≤ commands_in (take k xs)
commands_more j k xs h =
    let t : take j (take k xs) ≡ take j xs = take-take j k xs h in
    let s : commands_in (take j (take k xs)) ≤ commands_in (take k xs) = sum_by-take-le (λ y. cond (is_command y) 1 0) (take k xs) j in
    subst (λ (ys : List Item). commands_in ys ≤ commands_in (take k xs)) t s

pub front_short : (n : ℕ) (xs : List Item) → front_with n xs ≤ length xs
front_short n [] = omega arith
front_short n (x ∷ xs) =
    ⊎_elim
    (λ (e : is_command x ≡ true).
    ⊎_elim
    (λ (z : eqb n 0 ≡ true). rw (e, z) (omega arith))
    (λ (z : eqb n 0 ≡ false). rw (e, z) (omega (arith, front_short (n - 1) xs)))
    (cases_Bool (eqb n 0)))
    (λ (e : is_command x ≡ false). rw e (omega (arith, front_short n xs)))
    (cases_Bool (is_command x))
