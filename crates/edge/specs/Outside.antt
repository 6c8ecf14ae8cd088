-- What is told of a source and of a sink: the bytes that are left, and the bytes that are written.
use Rattle.std.specs.Prelude.{◌≡◌, ℕ, Bool, if◌then◌else◌, List, ◌++◌, Option, Some, None}
use Rattle.std.specs.Option.{option_map}
use Rattle.tcmu_types.specs.Numbered.{next_call}

-- where told, it is this list
abbrev pub Tells : Option (List ℕ) → List ℕ → Type 0
Tells None bytes = Unit {0}
Tells (Some told) bytes = told ≡ bytes

-- the piece was taken from the front of what was left; telling is kept
abbrev pub Gave : Option (List ℕ) → List ℕ → Option (List ℕ) → Type 0
Gave old piece new = old ≡ option_map (λ rest. piece ++ rest) new

-- the piece was appended to what was written; telling is kept
abbrev pub Gained : Option (List ℕ) → List ℕ → Option (List ℕ) → Type 0
Gained old piece new = new ≡ option_map (λ written. written ++ piece) old

-- a front of the text was appended
abbrev pub GainedFront : Option (List ℕ) → List ℕ → Option (List ℕ) → Type 0
GainedFront old text new = (piece rest : List ℕ) × (text ≡ piece ++ rest) × Gained old piece new

-- a count of failed calls behind one more call: a failed one counts, and no other
abbrev pub CountsFailed : ℕ → Bool → ℕ → Type 0
CountsFailed old failed new = new ≡ (if failed then next_call old else old)
