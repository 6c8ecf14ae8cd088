-- Numbers as bytes, lowest first, and bytes at places.
use Rattle.std.specs.Prelude.{List, drop, length, ℕ, ◌++◌, ◌-◌}
use Rattle.byteorder.specs.Endian.{little_bytes, little_number}
use Rattle.tcmu_types.specs.Overwriting.{zeros, overwritten}

-- a number as n bytes
unfoldable pub le : ℕ → ℕ → List ℕ
le n x = little_bytes n x

-- the number in the n bytes from a place on
unfoldable pub field : ℕ → ℕ → List ℕ → ℕ
field n at xs = little_number n (drop at xs)

-- bytes, and zeros behind them up to the length n
unfoldable pub padded : ℕ → List ℕ → List ℕ
padded n xs = xs ++ zeros (n - length xs)

-- bytes, with those from a place on written over
unfoldable pub put : List ℕ → ℕ → List ℕ → List ℕ
put xs at bytes = overwritten at bytes xs
