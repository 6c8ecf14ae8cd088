-- Hexadecimal digits are read again.
use Rattle.std.proofs.Common.{◌≡◌, ℕ, ◌+◌, ◌-◌, ◌*◌, ◌/◌, ◌%◌, ◌<◌, ◌≤◌, Bool, true, false, nat_lt, List, [], ◌∷◌, Some, refl, ap, ◌∙◌, arith}
use Rattle.std.specs.List.{flat_map}
use Rattle.std.proofs.lemmas.Bool.{and_from, and_right, le-leb, lt-leb, lt-ltb, eq-eqb, ltb-true, ltb-false, cond-true, cond-false}
use Rattle.std.specs.Option.{option_and_then}
use Rattle.text_model.specs.Fields.{is_cdb, cdb_of}
use Rattle.tcmu_types.specs.Hex.{hex_value, hex_pair, bytes_of_hex, hex_digit, hex_byte}
use Rattle.tcmu_types.specs.Fields.{only_if}
use Rattle.text_laws.specs.Bytes.{AreBytes}
use Rattle.text_laws.specs.Pieces.{CdbsAgain}

hex_value_again : (n : ℕ) → n < 16 → hex_value (hex_digit n) ≡ Some n
hex_value_again n lt = go (nat_lt n 10) refl
  where
    go : (b : Bool) → nat_lt n 10 ≡ b → hex_value (hex_digit n) ≡ Some n
    go true t =
        let small = ltb-true _ _ t in
        let low : 48 ≤ 48 + n = omega arith in
        let high : 48 + n ≤ 57 = omega (arith, small) in
        let back : 48 + n - 48 ≡ n = omega arith in
        ap hex_value (cond-true _ _ _ t) ∙ cond-true _ _ _ (and_from _ _ (le-leb _ _ low) (le-leb _ _ high)) ∙ ap (λ (k : ℕ). Some k) back
    go false t =
        let big = ltb-false _ _ t in
        let above : 57 < 87 + n = omega (arith, big) in
        let low : 97 ≤ 87 + n = omega (arith, big) in
        let high : 87 + n ≤ 102 = omega (arith, lt) in
        let back : 87 + n - 87 ≡ n = omega arith in
        ap hex_value (cond-false _ _ _ t) ∙ cond-false _ _ _ (and_right _ _ (lt-leb _ _ above)) ∙ cond-true _ _ _ (and_from _ _ (le-leb _ _ low) (le-leb _ _ high)) ∙ ap (λ (k : ℕ). Some k) back

pub pair_again : (b : ℕ) → b < 256 → hex_pair (hex_digit (b / 16)) (hex_digit (b % 16)) ≡ Some b
pair_again b lt =
    let high : b / 16 < 16 = omega (arith, lt) in
    let low : b % 16 < 16 = omega arith in
    let whole : 16 * (b / 16) + b % 16 ≡ b = omega arith in
    rw (hex_value_again (b / 16) high, hex_value_again (b % 16) low) (ap (λ (k : ℕ). Some k) whole)

pub bytes_again : (bytes : List ℕ) → AreBytes bytes → bytes_of_hex (flat_map hex_byte bytes) ≡ Some bytes
unfolding hex_byte
bytes_again [] h = refl
bytes_again (b ∷ bytes) h = rw (pair_again b h.0) (rw (bytes_again bytes h.1) refl)

pub cdb_again : CdbsAgain
unfolding cdb_of
cdb_again cdb h is =
    ap (option_and_then (only_if is_cdb)) (bytes_again cdb h) ∙ cond-true _ _ _ (and_from _ _ (lt-ltb _ _ is.some) (eq-eqb _ _ is.group))
