-- Lists whose items are named by number.
use Rattle.std.proofs.Common.{ℕ, zero, suc, List, [], ◌∷◌, slice_set}
use Rattle.tcmu_types.specs.Lists.{Every}

pub every_set : {X : Type 0} (P : X → Type 0) (xs : List X) (k : ℕ) (y : X) → Every P xs → P y → Every P (slice_set xs k y)
every_set P [] k y h p = tt
every_set P (z ∷ xs) zero y h p = (p, h.1)
every_set P (z ∷ xs) (suc k) y h p = (h.0, every_set P xs k y h.1 p)
