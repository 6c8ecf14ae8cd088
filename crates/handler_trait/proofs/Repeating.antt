-- Copies of a block, one behind the other.
use Rattle.std.proofs.Common.{◌∙◌, ◌≡◌, ℕ, zero, suc, ◌+◌, ◌*◌, ◌≤◌, List, ◌++◌, sym, ap, refl, length, arith, append_assoc, append-nil}
use Rattle.std.proofs.lemmas.List.{length-append}
use Rattle.tcmu_types.specs.Overwriting.{overwritten}
use Rattle.tcmu_types.proofs.Overwriting.{overwritten_more}
use Rattle.scsi_model.specs.Medium.{repeated}

pub length_repeated : (n : ℕ) (block : List ℕ) → length block ≡ 512 → length (repeated n block) ≡ 512 * n
length_repeated zero block l = refl
length_repeated (suc n) block l = length-append block (repeated n block) ∙ omega (arith, l, length_repeated n block l)

pub repeated_more : (n : ℕ) (block : List ℕ) → repeated n block ++ block ≡ repeated (n + 1) block
repeated_more n block = let e : n + 1 ≡ suc n = omega arith in by n ∙ ap (λ k. repeated k block) (sym e)
  where
    by : (k : ℕ) → repeated k block ++ block ≡ repeated (suc k) block
    by zero = sym (append-nil block)
    by (suc k) = append_assoc block (repeated k block) block ∙ ap (λ ys. block ++ ys) (by k)

-- one more block of a fill
pub fill_more : (at k : ℕ) (block xs : List ℕ) → length block ≡ 512 → at + 512 * k + 512 ≤ length xs
    → overwritten (at + 512 * k) block (overwritten at (repeated k block) xs) ≡ overwritten at (repeated (k + 1) block) xs
fill_more at k block xs l fits =
    let n : length (repeated k block) ≡ 512 * k = length_repeated k block l in
    let room : at + length (repeated k block) + length block ≤ length xs = rw n (rw l fits) in
    ap (λ j. overwritten (at + j) block (overwritten at (repeated k block) xs)) (sym n)
    ∙ overwritten_more at (repeated k block) block xs room
    ∙ ap (λ p. overwritten at p xs) (repeated_more k block)
