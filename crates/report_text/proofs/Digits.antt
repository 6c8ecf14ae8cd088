-- The kit's hexadecimal digits are those of a journal.
use Rattle.std.proofs.Common.{◌≡◌, ℕ, ◌<◌, ◌/◌, ◌%◌, zero, suc, Bool, true, false, ◌&&◌, eqb, [], ◌∷◌, slice_index, refl, sym, subst, arith, ⊎_elim}
use Rattle.std.proofs.lemmas.Bool.{and_parts, cases_Bool, eqb-true, eqb-false}
use Rattle.hex.specs.Hex.{lower_digits, encode_lower, encode_with}
use Rattle.tcmu_types.specs.Hex.{hex_digit, hex_byte}

-- the first so many digits are the same
are_same : ℕ → Bool
are_same zero = true
are_same (suc n) = eqb (slice_index lower_digits n) (hex_digit n) && are_same n

same_digit : (k n : ℕ) → are_same k ≡ true → n < k → slice_index lower_digits n ≡ hex_digit n
unfolding are_same
same_digit zero n h less = absurd (omega (arith, less))
same_digit (suc k) n h less =
    let p = and_parts (eqb (slice_index lower_digits k) (hex_digit k)) (are_same k) h in
    ⊎_elim
    (λ (e : eqb n k ≡ true). subst (λ m. slice_index lower_digits m ≡ hex_digit m) (sym (eqb-true n k e)) (eqb-true (slice_index lower_digits k) (hex_digit k) p.0))
    (λ (e : eqb n k ≡ false). same_digit k n p.1 (omega (arith, less, eqb-false n k e)))
    (cases_Bool (eqb n k))

pub lower_hex : (b : ℕ) → b < 256 → encode_lower (b ∷ []) ≡ hex_byte b
unfolding are_same encode_with hex_byte
lower_hex b less =
    let high : slice_index lower_digits (b / 16) ≡ hex_digit (b / 16) = same_digit 16 (b / 16) refl (omega arith) in
    let low : slice_index lower_digits (b % 16) ≡ hex_digit (b % 16) = same_digit 16 (b % 16) refl (omega arith) in
    rw (high, low) refl
