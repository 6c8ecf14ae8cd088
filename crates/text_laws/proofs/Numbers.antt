-- Numbers are read again.
use Rattle.std.proofs.Common.{◌≡◌, ℕ, zero, suc, ◌+◌, ◌%◌, ◌^◌, ◌<◌, ◌≤◌, Bool, true, false, ◌||◌, nat_lt, nat_eq, List, [], ◌∷◌, ◌++◌, length, get_or, Some, refl, ap, ◌∙◌, arith}
use Rattle.std.specs.List.{list_all}
use Rattle.std.specs.Fmt.{decimal}
use Rattle.std.specs.Str.Parse.{digits_value}
use Rattle.std.proofs.lemmas.Bool.{and_from, le-leb, lt-ltb, eq-eqb, cond-true, or_right}
use Rattle.std.proofs.lemmas.Fmt.{decimal_by_steps, decimal_digit, decimal_is_IsNumeral, decimal_nonempty, first_decimal}
use Rattle.std.proofs.lemmas.List.Folds.{list_all-append}
use Rattle.tcmu_types.specs.Decimals.{is_digit, is_number, number_of}
use Rattle.text_laws.specs.Pieces.{NumbersAgain}

digit : (d : ℕ) → d < 10 → is_digit (48 + d) ≡ true
digit d lt =
    let low : 48 ≤ 48 + d = omega arith in
    let high : 48 + d ≤ 57 = omega (arith, lt) in
    and_from _ _ (le-leb _ _ low) (le-leb _ _ high)

pub all_digits : (n : ℕ) → n < 2 ^ 64 → list_all is_digit (decimal n) ≡ true
all_digits n lt = decimal_by_steps (λ k ds. list_all is_digit ds ≡ true) one more n lt
  where
    one : (k : ℕ) → k < 10 → list_all is_digit ((48 + k) ∷ []) ≡ true
    one k h = and_from _ _ (digit k h) refl

    more : (k : ℕ) (ds : List ℕ) → 10 ≤ k → list_all is_digit ds ≡ true → list_all is_digit (ds ++ ((48 + k % 10) ∷ [])) ≡ true
    more k ds le h =
        let small : k % 10 < 10 = omega arith in
        list_all-append is_digit ds ((48 + k % 10) ∷ []) ∙ and_from _ _ h (and_from _ _ (digit (k % 10) small) refl)

or_left : (a b : Bool) → a ≡ true → (a || b) ≡ true
or_left true b e = refl
or_left false b e = absurd (cc)

no_zero_first : (n : ℕ) → n < 2 ^ 64 → (nat_eq (length (decimal n)) 1 || nat_lt 48 (get_or (decimal n) 0 0)) ≡ true
no_zero_first zero lt = or_left _ _ (eq-eqb _ _ (ap length (decimal_digit 0 (omega arith))))
no_zero_first (suc n) lt = or_right _ _ (lt-ltb _ _ (first_decimal (suc n) (omega arith) lt))

pub decimal_is_number : (n : ℕ) → n < 2 ^ 64 → is_number (decimal n) ≡ true
decimal_is_number n lt =
    let some : 1 ≤ length (decimal n) = omega (arith, decimal_nonempty n lt) in
    and_from _ _ (and_from _ _ (le-leb _ _ some) (all_digits n lt)) (no_zero_first n lt)

pub number_again : (low high n : ℕ) → low ≤ n → n ≤ high → high < 2 ^ 60 → number_of low high (decimal n) ≡ Some n
unfolding number_of
number_again low high n l h lt =
    let small : n < 2 ^ 64 = omega (arith, h, lt) in
    let is = (decimal_is_IsNumeral n small).1 in
    let least : low ≤ digits_value 10 (decimal n) = omega (arith, is, l) in
    let most : digits_value 10 (decimal n) ≤ high = omega (arith, is, h) in
    cond-true _ _ _ (and_from _ _ (and_from _ _ (decimal_is_number n small) (le-leb _ _ least)) (le-leb _ _ most)) ∙ ap (λ (k : ℕ). Some k) is

pub number_within_again : NumbersAgain
number_within_again low high n w lt = number_again low high n w.least w.most lt
