-- Bytes as lower-case hexadecimal digits, read and written.
use Rattle.std.specs.Prelude.{List, None, Option, Some, [], if◌then◌else◌, nat_le, ℕ, ◌&&◌, ◌*◌, ◌+◌, ◌-◌, ◌∷◌, nat_lt, ◌%◌, ◌/◌}
use Rattle.std.specs.Option.{option_and_then, option_map}
use Rattle.tcmu_types.specs.Decimals.{is_digit}

-- a lower-case hexadecimal digit
abbrev pub hex_value : ℕ → Option ℕ
hex_value c = if is_digit c then Some (c - 48) else (if nat_le 97 c && nat_le c 102 then Some (c - 87) else None)

-- two of them
abbrev pub hex_pair : ℕ → ℕ → Option ℕ
hex_pair a b = option_and_then (λ x. option_and_then (λ y. Some (16 * x + y)) (hex_value b)) (hex_value a)

-- two for each byte
abbrev pub bytes_of_hex : List ℕ → Option (List ℕ)
bytes_of_hex [] = Some []
bytes_of_hex (a ∷ []) = None
bytes_of_hex (a ∷ b ∷ rest) = option_and_then (λ x. option_map (λ xs. x ∷ xs) (bytes_of_hex rest)) (hex_pair a b)

abbrev pub hex_digit : ℕ → ℕ
hex_digit n = if nat_lt n 10 then 48 + n else 87 + n

-- two lower-case hexadecimal digits
unfoldable pub hex_byte : ℕ → List ℕ
hex_byte b = hex_digit (b / 16) ∷ hex_digit (b % 16) ∷ []
