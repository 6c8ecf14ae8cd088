-- Chains of tests that end in a fault.
use Rattle.std.proofs.Common.{◌≡◌, ◌≢◌, ℕ, ◌==◌, ◌≤◌, ◌<◌, not, nat_lt, nat_le, Bool, true, false, cond, Result, Ok, Err, refl, sym, ◌∙◌, arith}
use Rattle.std.proofs.lemmas.Bool.Decides.{nat_tests}

-- a chain whose answer is no fault passed its first test, and its rest answers
pub guard_ok : {A E : Type 0} (b : Bool) (e : E) (r : Result A E) (y : A) → cond b (Err e) r ≡ Ok y → (b ≡ false) × (r ≡ Ok y)
guard_ok true e r y h = cc
guard_ok false e r y h = (refl, h)

-- the same the other way
pub guard_passes : {A E : Type 0} (b : Bool) (e : E) (r : Result A E) (y : A) → b ≡ false → r ≡ Ok y → cond b (Err e) r ≡ Ok y
guard_passes true e r y passed h = cc
guard_passes false e r y passed h = h

-- the tests that the chains make
pub differs : (a b : ℕ) → not (a == b) ≡ true → a ≢ b
differs a b test = λ (e : a ≡ b). false_not_true (sym (equal a b e) ∙ test)
  where
    equal : (a b : ℕ) → a ≡ b → not (a == b) ≡ false
    equal a b e = grind (arith, nat_tests)

    false_not_true : false ≡ true → ⊥
    false_not_true h = cc

pub is_same : (a b : ℕ) → not (a == b) ≡ false → a ≡ b
is_same a b test = grind (arith, nat_tests)

pub is_below : (a b : ℕ) → nat_lt a b ≡ true → a < b
is_below a b test = grind (arith, nat_tests)

pub not_below : (a b : ℕ) → nat_lt a b ≡ false → b ≤ a
not_below a b test = grind (arith, nat_tests)

pub is_most : (a b : ℕ) → nat_le a b ≡ true → a ≤ b
is_most a b test = grind (arith, nat_tests)

pub not_most : (a b : ℕ) → nat_le a b ≡ false → b < a
not_most a b test = grind (arith, nat_tests)
