-- Bytes that are the same.
use Rattle.std.specs.Prelude.{◌≡◌, ℕ, ◌≤◌, List, length, take, replicate}

-- the first bytes, so many, are this one
pub record BeginAlike (bytes : List ℕ) (byte count : ℕ) : Type 0 where
  pub there : count ≤ length bytes
  pub alike : take count bytes ≡ replicate count byte
