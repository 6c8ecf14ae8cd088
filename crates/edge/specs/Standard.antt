-- What a source and a sink over std show: the reader or the writer below, and what is counted.
use Rattle.std.specs.Prelude.{◌≡◌, ℕ, List, ◌++◌, Option}
use Rattle.std.specs.Io.KnownBytes.{Appends}

-- a reader, how many reads were made of it, and how many of them have failed
pub record CountedReader (R : Type 0) : Type 0 where
  pub inner : R
  pub reads : ℕ
  pub faults : ℕ

-- a writer, and how many calls have failed
pub record CountedWriter (W : Type 0) : Type 0 where
  pub inner : W
  pub faults : ℕ

-- a front of the text was appended, where the writer tells
abbrev pub AppendsFront : Option (List ℕ) → Option (List ℕ) → List ℕ → Type 0
AppendsFront old new text = (front rest : List ℕ) × (text ≡ front ++ rest) × Appends old new front
