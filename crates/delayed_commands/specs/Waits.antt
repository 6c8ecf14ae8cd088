-- The delayed command that is next to enter.
use Rattle.std.specs.Prelude.{◌≡◌, List, ◌∷◌}
use Rattle.tcmu_model.specs.Device.{Delayed}

-- w is the first of them
pub record IsNext (ws : List Delayed) (w : Delayed) : Type 0 where
  pub rest : List Delayed
  pub is : ws ≡ w ∷ rest
