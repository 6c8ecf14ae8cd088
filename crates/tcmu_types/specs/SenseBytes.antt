-- Sense data as bytes.
use Rattle.std.specs.Prelude.{ℕ, ◌%◌, List, [], ◌∷◌, slice_index}
use Rattle.tcmu_types.specs.Data.{SenseData}

-- fixed format: response code 70h, the key in byte 2, 10 bytes that follow byte 7, the codes in bytes 12 and 13
abbrev pub fixed_sense : SenseData → List ℕ
fixed_sense s =
    0x70 ∷ 0 ∷ s.key ∷ 0 ∷ 0 ∷ 0 ∷ 0 ∷ 0x0a ∷ 0 ∷ 0 ∷ 0 ∷ 0 ∷ s.asc ∷ s.ascq ∷ 0 ∷ 0 ∷ 0 ∷ 0 ∷ []

-- what a sense buffer says
abbrev pub sense_in : List ℕ → SenseData
sense_in buffer = record { key = slice_index buffer 2 % 16; asc = slice_index buffer 12; ascq = slice_index buffer 13 }
