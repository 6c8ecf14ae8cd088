-- What the store below a medium over a file may hold.
use Rattle.std.proofs.Common.{◌∙◌, ◌≡◌, ℕ, ◌/◌, true, false, List, length, sym, ap, Some, slice_get, ⊎_elim}
use Rattle.std.proofs.lemmas.Bool.{cases_Bool}
use Rattle.tcmu_types.specs.Numbers.{is_among}
use Rattle.tcmu_model.specs.MediumState.{MediumState}
use Rattle.scsi_model.specs.Base.{zeroed}
use Rattle.scsi_model.specs.Medium.{lies_in}
use Rattle.scsi_model.specs.Runs.{ShowsFile, HoldsOne}
use Rattle.scsi_model.proofs.Cleared.{hidden, get_cleared, length_cleared}
use Rattle.scsi_model.proofs.Decided.{true_false}

some_one : (xs ys : List ℕ) → Some xs ≡ Some ys → xs ≡ ys
some_one xs ys e = cc

-- outside of the lost range no block is free
away : (m : MediumState) (i : ℕ) → ShowsFile m → lies_in m.below.lost i ≡ false → is_among m.below.store.free (i / 512) ≡ false
away m i s out =
    ⊎_elim
    (λ (t : is_among m.below.store.free (i / 512) ≡ true). true_false (sym (s.free i t) ∙ out))
    (λ (f : is_among m.below.store.free (i / 512) ≡ false). f)
    (cases_Bool (is_among m.below.store.free (i / 512)))

pub holds_one : HoldsOne
holds_one m xs ys s a b =
    let free = m.below.store.free in
    let same : zeroed free ys ≡ zeroed free xs = some_one _ _ (sym b ∙ a) in
    record {
      long = sym (length_cleared free ys) ∙ ap (λ (zs : List ℕ). length zs) same ∙ length_cleared free xs;
      bytes = λ i out.
          let known : (zs : List ℕ) → slice_get (zeroed free zs) i ≡ slice_get zs i = λ zs. get_cleared free zs i ∙ ap (λ t. hidden t (slice_get zs i)) (away m i s out) in
          sym (known ys) ∙ ap (λ (zs : List ℕ). slice_get zs i) same ∙ known xs;
    }
