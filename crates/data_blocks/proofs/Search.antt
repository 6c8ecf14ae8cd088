-- The plain search for the least number that does not pass.
use Rattle.std.proofs.Common.{◌≡◌, ◌≢◌, ℕ, ◌+◌, ◌*◌, ◌/◌, ◌≤◌, ◌<◌, ⊎_elim, Bool, true, false, List, slice_index, Some, None, refl, ap, ◌∙◌, arith, suc, zero}
use Rattle.std.proofs.lemmas.Bool.{cases_eq}
use Rattle.std.specs.Int.{trailing_ones, w64}
use Rattle.data_blocks.specs.Bitmap.{is_set, first_refused, first_clear}
use Rattle.data_blocks.proofs.Bits.{full-sets, found-clear}

pub refused-none : (p : ℕ → Bool) (n k : ℕ) → ((j : ℕ) → n ≤ j → j < n + k → p j ≡ true) → first_refused p n k ≡ None
refused-none p n zero h = refl
refused-none p n (suc k) h = rw (h n (omega arith) (omega arith)) (refused-none p (n + 1) k (λ j a b. h j (omega arith) (omega arith)))

pub refused-some : (p : ℕ → Bool) (n k m : ℕ) → n ≤ m → m < n + k → ((j : ℕ) → n ≤ j → j < m → p j ≡ true) → p m ≡ false → first_refused p n k ≡ Some m
refused-some p n zero m a b h f = absurd (omega arith)
refused-some p n (suc k) m a b h f =
    ⊎_elim
    (λ (e : n ≡ m). let g : p n ≡ false = ap p e ∙ f in rw g (ap Some e))
    (λ (d : n ≢ m). rw (h n (omega arith) (omega arith)) (refused-some p (n + 1) k m (omega arith) (omega arith) (λ j x y. h j (omega arith) y) f))
    (cases_eq n m)

-- all words are full
pub none-clear : (words : List ℕ) (limit count : ℕ) → limit ≤ 64 * count → ((k : ℕ) → k < count → slice_index words k ≡ 18446744073709551615) → first_clear words limit ≡ None
none-clear words limit count l full = refused-none (is_set words) 0 limit (λ j a b. full-sets words j (j / 64) refl (full (j / 64) (omega arith)))

set-before : (words : List ℕ) (w t : ℕ) → slice_index words w < 18446744073709551615 → t ≡ trailing_ones w64 (slice_index words w) →
    ((k : ℕ) → k < w → slice_index words k ≡ 18446744073709551615) → (j : ℕ) → j < 64 * w + t → is_set words j ≡ true
set-before words w t h e full j b =
    let f = found-clear words w t h e in
    let l = f.0 in
    ⊎_elim
    (λ (q : j / 64 ≡ w). f.2 j q b)
    (λ (q : j / 64 ≢ w). full-sets words j (j / 64) refl (full (j / 64) (omega arith)))
    (cases_eq (j / 64) w)

-- the word w is the first that is not full
pub some-clear : (words : List ℕ) (limit w t : ℕ) → slice_index words w < 18446744073709551615 → t ≡ trailing_ones w64 (slice_index words w) →
    ((k : ℕ) → k < w → slice_index words k ≡ 18446744073709551615) → 64 * w + t < limit → first_clear words limit ≡ Some (64 * w + t)
some-clear words limit w t h e full l =
    refused-some (is_set words) 0 limit (64 * w + t) (omega arith) (omega arith) (λ j a b. set-before words w t h e full j b) ((found-clear words w t h e).1)

pub past-clear : (words : List ℕ) (limit w t : ℕ) → slice_index words w < 18446744073709551615 → t ≡ trailing_ones w64 (slice_index words w) →
    ((k : ℕ) → k < w → slice_index words k ≡ 18446744073709551615) → limit ≤ 64 * w + t → first_clear words limit ≡ None
past-clear words limit w t h e full l =
    refused-none (is_set words) 0 limit (λ j a b. set-before words w t h e full j (omega arith))
