-- The bytes of a new region.
use Rattle.std.proofs.Common.{◌≡◌, ℕ, ◌+◌, List, ◌++◌, length, drop, replicate, ap, ◌∙◌, arith}
use Rattle.std.proofs.lemmas.List.{drop-replicate}
use Rattle.tcmu_types.specs.ByteFields.{put, padded}
use Rattle.tcmu_types.specs.Overwriting.{zeros}

-- a text over zeros
pub put-replicate : (n : ℕ) (text : List ℕ) → put (replicate n 0) 0 text ≡ padded n text
unfolding put padded zeros
put-replicate n text = ap (λ (w : List ℕ). text ++ w) (ap (λ (m : ℕ). drop m (replicate n 0)) (none_before (length text)) ∙ drop-replicate (length text) n 0)
  where
    none_before : (m : ℕ) → 0 + m ≡ m
    none_before m = omega arith
