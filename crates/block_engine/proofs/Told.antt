-- Bytes that are read: there are some as a medium tells them, and no others where none of them is lost.
use Rattle.std.proofs.Common.{◌∙◌, ◌≡◌, ℕ, zero, suc, ◌+◌, ◌<◌, ◌≤◌, true, false, List, [], ◌∷◌, length, sym, ap, refl, arith, Option, Some, None, IfSome, is_some, slice_index, ⊎_elim}
use Rattle.std.proofs.lemmas.Bool.{cases_lt}
use Rattle.std.proofs.lemmas.Option.{slice_get_past}
use Rattle.tcmu_types.proofs.Places.{same_list, get_from_index}
use Rattle.tcmu_model.specs.MediumState.{Below, MediumState}
use Rattle.scsi_model.specs.Medium.{lies_in, MatchesTold}
use Rattle.scsi_model.proofs.Decided.{true_false}

abbrev numbers : ℕ → ℕ → List ℕ → List ℕ
numbers at zero xs = []
numbers at (suc n) xs = slice_index xs at ∷ numbers (suc at) n xs

length_numbers : (at n : ℕ) (xs : List ℕ) → length (numbers at n xs) ≡ n
length_numbers at zero xs = refl
length_numbers at (suc n) xs = ap suc (length_numbers (suc at) n xs)

numbers_at : (at n i : ℕ) (xs : List ℕ) → i < n → slice_index (numbers at n xs) i ≡ slice_index xs (at + i)
numbers_at at zero i xs h = absurd (omega arith)
numbers_at at (suc n) zero xs h = ap (slice_index xs) (omega arith)
numbers_at at (suc n) (suc i) xs h = numbers_at (suc at) n i xs (omega arith) ∙ ap (slice_index xs) (omega arith)

pub told_some : (b : Below) (at n : ℕ) → (out : List ℕ) × (length out ≡ n) × MatchesTold b at out
told_some b at n = by b.bytes
  where
    by : (o : Option (List ℕ)) → (out : List ℕ) × (length out ≡ n) × IfSome o (λ bytes. (i : ℕ) → i < length out → lies_in b.lost (at + i) ≡ false → slice_index out i ≡ slice_index bytes (at + i))
    by None = (numbers at n [], length_numbers at n [], tt)
    by (Some xs) = (numbers at n xs, length_numbers at n xs, λ i h _. numbers_at at n i xs (rw (← length_numbers at n xs) h))

-- no byte of the range is lost
abbrev pub SeesRange : MediumState → ℕ → ℕ → Type 0
SeesRange m at n = (i : ℕ) → i < n → lies_in m.below.lost (at + i) ≡ false

-- the bytes that are read are determined, where none is lost
pub told_one : (m : MediumState) (at n : ℕ) (out ys : List ℕ) → is_some m.below.bytes ≡ true → length out ≡ n → length ys ≡ n → SeesRange m at n
    → MatchesTold m.below at out → MatchesTold m.below at ys → out ≡ ys
told_one m at n out ys t l k sees x y = by m.below.bytes t x y
  where
    by : (o : Option (List ℕ)) → is_some o ≡ true
        → IfSome o (λ bytes. (i : ℕ) → i < length out → lies_in m.below.lost (at + i) ≡ false → slice_index out i ≡ slice_index bytes (at + i))
        → IfSome o (λ bytes. (i : ℕ) → i < length ys → lies_in m.below.lost (at + i) ≡ false → slice_index ys i ≡ slice_index bytes (at + i))
        → out ≡ ys
    by None t x y = true_false (sym t)
    by (Some bytes) t x y =
        same_list out ys (λ i. ⊎_elim
        (λ (h : i < n). get_from_index out ys i i (rw l h) (rw k h) (x i (rw l h) (sees i h) ∙ sym (y i (rw k h) (sees i h))))
        (λ (h : n ≤ i). slice_get_past out i (rw l h) ∙ sym (slice_get_past ys i (rw k h)))
        (cases_lt i n))
