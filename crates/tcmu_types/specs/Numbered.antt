-- Calls that are numbered 1, 2, 3 and so on, of which some fail; and counts of faults.
use Rattle.std.specs.Prelude.{◌≡◌, ◌⊎◌, ℕ, zero, suc, ◌+◌, ◌-◌, ◌^◌, ◌<◌, ◌≤◌, min, Bool, true, false, List, nat_eq, Option, IfSome, Result, IsErr}
use Rattle.std.specs.List.{list_any}

-- the numbers of the calls that fail, where told, and how many calls were made
pub record Numbered : Type 0 where
  pub fails : Option (List ℕ)
  pub calls : ℕ

-- one more call; the count stops at 2^64 - 1
abbrev pub next_call : ℕ → ℕ
next_call calls = min (calls + 1) (2 ^ 64 - 1)

-- whether the next call is one of those that fail
abbrev pub is_listed : List ℕ → ℕ → Bool
is_listed fails calls = list_any (λ k. nat_eq k (next_call calls)) fails

abbrev pub one_more : Numbered → Numbered
one_more c = record { fails = c.fails; calls = next_call c.calls }

-- the next call may come out so: exactly as listed, where the list is told
abbrev pub ComesOut : Numbered → Bool → Type 0
ComesOut c failed = IfSome c.fails (λ fails. failed ≡ is_listed fails c.calls)

-- n calls, up to the first that fails, came out so and left these numbers
abbrev pub Tries : ℕ → Numbered → Bool → Numbered → Type 0
Tries zero c failed after = (failed ≡ false) × (after ≡ c)
Tries (suc n) c failed after =
    (ComesOut c true × (failed ≡ true) × (after ≡ one_more c)) ⊎ (ComesOut c false × Tries n (one_more c) failed after)

-- a count of faults has risen; one that stands at its end counts as risen
abbrev pub Rose : ℕ → ℕ → Type 0
Rose old new = (old < new) ⊎ (2 ^ 64 ≤ old + 1)

-- a count of faults never falls, and a fault is answered only where it rose
pub record HasCause {T E : Type 0} (old new : ℕ) (result : Result T E) : Type 0 where
  pub later : old ≤ new
  pub failed : IsErr result → Rose old new
