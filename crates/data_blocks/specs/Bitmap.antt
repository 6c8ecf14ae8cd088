-- Numbers as bits of words of 64: the number n is bit `n mod 64` of word `n / 64`.
use Rattle.std.specs.Prelude.{ℕ, ◌+◌, ◌/◌, ◌%◌, ◌==◌, Bool, List, [], ◌∷◌, slice_index, Option, Some, None, suc, zero, if◌then◌else◌}
use Rattle.std.specs.Int.{bit_at}

unfoldable pub is_set : List ℕ → ℕ → Bool
is_set words n = bit_at (slice_index words (n / 64)) (n % 64) == 1

-- of the k numbers from n on, those that pass a test
abbrev pub chosen : (ℕ → Bool) → ℕ → ℕ → List ℕ
chosen p n zero = []
chosen p n (suc k) = if p n then n ∷ chosen p (n + 1) k else chosen p (n + 1) k

-- of the k numbers from n on, the least that does not pass
abbrev pub first_refused : (ℕ → Bool) → ℕ → ℕ → Option ℕ
first_refused p n zero = None
first_refused p n (suc k) = if p n then first_refused p (n + 1) k else Some n

-- the numbers below the limit whose bit is set
abbrev pub set_below : List ℕ → ℕ → List ℕ
set_below words limit = chosen (is_set words) 0 limit

-- the least number below the limit whose bit is clear
abbrev pub first_clear : List ℕ → ℕ → Option ℕ
first_clear words limit = first_refused (is_set words) 0 limit
