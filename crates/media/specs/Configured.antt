-- A medium as its config has it, over what bears it.
use Rattle.std.specs.Prelude.{ℕ, Bool, List, [], ◌∷◌, Option, Some, None}
use Rattle.tcmu_model.specs.MediumState.{MediumState}

-- the calls that fail, of which those below are told or not: told where none below fails by its number
abbrev pub listed_over : List ℕ → Option (List ℕ) → Option (List ℕ)
listed_over fails (Some []) = Some fails
listed_over fails (Some (n ∷ ns)) = None
listed_over fails None = None

-- the medium with this protected bit, these calls that fail, and so many calls made
abbrev pub configured : Bool → List ℕ → ℕ → MediumState → MediumState
configured protected fails calls m =
    record m { protected = protected; own = record { fails = listed_over fails m.own.fails; calls = calls } }

-- what contracts see of it: its protected bit, its calls that fail, how many were made and how many failed, and what is below
pub record ConfiguredData (M : Type 0) : Type 0 where
  pub protected : Bool
  pub fails : List ℕ
  pub calls : ℕ
  pub faults : ℕ
  pub below : M
