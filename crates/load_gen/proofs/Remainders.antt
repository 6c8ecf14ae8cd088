-- Remainders of sums and products.
use Rattle.std.proofs.Common.{◌≡◌, ℕ, ◌+◌, ◌*◌, ◌%◌, ◌^◌, ◌/◌, sym, ap, ◌∙◌, arith}
use Rattle.std.proofs.Math.Nat.{add-mul-mod_self_right, mod-add-div', mul_comm}

-- the remainder of a product may be taken before a number is added to it
pub one_remainder : (a b c : ℕ) → ((a * b) % 2 ^ 64 + c) % 2 ^ 64 ≡ (b * a + c) % 2 ^ 64
one_remainder a b c =
    let p = a * b in
    let m = 2 ^ 64 in
    let split : (p % m + c) + p / m * m ≡ b * a + c = omega (arith, mod-add-div' p m, mul_comm a b) in
    sym (add-mul-mod_self_right (p % m + c) (p / m) m) ∙ ap (λ (n : ℕ). n % m) split
