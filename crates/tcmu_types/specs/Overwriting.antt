-- Zeros, and bytes of which some are replaced.
use Rattle.std.specs.Prelude.{ℕ, ◌+◌, List, ◌++◌, length, take, drop, replicate}

unfoldable pub zeros : ℕ → List ℕ
zeros n = replicate n 0

-- these bytes, with those from a place on replaced by a piece
abbrev pub overwritten : ℕ → List ℕ → List ℕ → List ℕ
overwritten at piece bytes = take at bytes ++ piece ++ drop (at + length piece) bytes
