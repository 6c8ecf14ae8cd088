-- Decimal numbers in texts, within limits, alone and in rising lists.
use Rattle.std.specs.Prelude.{Bool, List, None, Option, Some, [], if◌then◌else◌, length, nat_le, nat_lt, slice_index, true, ℕ, ◌&&◌, ◌==◌, ◌||◌, ◌∷◌, IsTrue, ◌≤◌}
use Rattle.std.specs.List.{list_all, All}
use Rattle.std.specs.Option.{option_and_then}
use Rattle.std.specs.Str.Parse.{digits_value}
use Rattle.tcmu_types.specs.Reading.{each}
use Rattle.tcmu_types.specs.Fields.{only_if, pieces}

abbrev pub is_digit : ℕ → Bool
is_digit c = nat_le 48 c && nat_le c 57

-- decimal digits, with no zero in front of others
abbrev pub is_number : List ℕ → Bool
is_number text = nat_le 1 (length text) && list_all is_digit text && (length text == 1 || nat_lt 48 (slice_index text 0))

-- the number that a text spells, within its limits
unfoldable pub number_of : ℕ → ℕ → List ℕ → Option ℕ
number_of low high text = if is_number text && nat_le low (digits_value 10 text) && nat_le (digits_value 10 text) high then Some (digits_value 10 text) else None

-- each is above the one before
abbrev pub is_rising : List ℕ → Bool
is_rising [] = true
is_rising (n ∷ []) = true
is_rising (n ∷ m ∷ ns) = nat_lt n m && is_rising (m ∷ ns)

-- 1 to 64 rising numbers from 1 to high, with such a byte between them
unfoldable pub rising_of : ℕ → ℕ → List ℕ → Option (List ℕ)
rising_of at high text = option_and_then (only_if (λ ns. is_rising ns && nat_le (length ns) 64)) (each (number_of 1 high) (pieces at text))

-- a number within its limits
pub record IsWithin (low high n : ℕ) : Type 0 where
  pub least : low ≤ n
  pub most : n ≤ high

-- at most 64 numbers from 1 to high, each above the one before
pub record IsRisingTo (high : ℕ) (ns : List ℕ) : Type 0 where
  pub few : length ns ≤ 64
  pub rising : IsTrue (is_rising ns)
  pub each : All (IsWithin 1 high) ns
