-- What contracts see of an engine.
use Rattle.std.specs.Prelude.{ℕ, List}

-- the name of its device, and the medium that it serves from
pub record EngineData (M : Type 0) : Type 0 where
  pub name : List ℕ
  pub medium : M
