-- A clean, item by item.
use Rattle.std.specs.Prelude.{ℕ, List, [], ◌∷◌, Result, Ok, Err}
use Rattle.region_model.specs.Regions.{RegionState}
use Rattle.region_model.specs.Sides.{Recorded, TargetState}
use Rattle.region_model.specs.TargetCleans.{CleanAnswer, Logged, BadTail, Broken, one_cleaned}
use Rattle.target_side.specs.declared.fault.TargetFault.{TargetFault}
use Rattle.target_side.specs.declared.fault.TargetFault.TheVariants as fault

-- the first item is cleaned, where there is one
abbrev pub first_cleaned : RegionState → TargetState → List Recorded → TargetState
first_cleaned r t [] = t
first_cleaned r t (x ∷ xs) = one_cleaned r t x xs x.kind

abbrev pub clean_result : CleanAnswer → Result ℕ TargetFault
clean_result (Logged n) = Ok n
clean_result (BadTail tail) = Err (fault.BadTail tail)
clean_result (Broken id) = Err (fault.Broken id)
