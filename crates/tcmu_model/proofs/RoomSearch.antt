-- Sums of lengths of items, and the search for the least number that is in no list, one number at a time.
use Rattle.std.proofs.Common.{◌≡◌, ℕ, ◌+◌, ◌-◌, ◌<◌, true, false, List, ◌∷◌, drop, sum, refl, ap, ◌∙◌, arith, suc}
use Rattle.std.proofs.lemmas.List.{drop-map}
use Rattle.std.proofs.lemmas.List.Folds.{fold-map}
use Rattle.tcmu_model.specs.RingState.{items_of, lengths, Pad}
use Rattle.tcmu_types.specs.Numbers.{is_among}
use Rattle.tcmu_model.specs.BlockLists.{free_from}

pub sum_of_items : (lens : List ℕ) → lengths (items_of lens) ≡ sum lens
sum_of_items lens = fold-map (λ a i. a + i.len) (λ n. record { len = n; laid = Pad }) 0 lens

pub rest_of_items : (k : ℕ) (lens : List ℕ) → lengths (drop k (items_of lens)) ≡ lengths (items_of (drop k lens))
rest_of_items k lens = ap lengths (drop-map _ k lens)

held-next : (held : List ℕ) (n k : ℕ) → is_among held n ≡ true → free_from held n (suc k) ≡ free_from held (n + 1) k
held-next held n k e = rw e refl

free-next : (held : List ℕ) (n k : ℕ) → is_among held n ≡ false → free_from held n (suc k) ≡ n ∷ free_from held (n + 1) k
free-next held n k e = rw e refl

-- a held number is passed
pub passes_held : (held : List ℕ) (n limit : ℕ) → n < limit → is_among held n ≡ true → free_from held n (limit - n) ≡ free_from held (n + 1) (limit - (n + 1))
passes_held held n limit l e =
    let f : limit - n ≡ suc (limit - (n + 1)) = omega arith in
    ap (free_from held n) f ∙ held-next held n (limit - (n + 1)) e

-- a free one comes first
pub finds_free : (held : List ℕ) (n limit : ℕ) → n < limit → is_among held n ≡ false → free_from held n (limit - n) ≡ n ∷ free_from held (n + 1) (limit - (n + 1))
finds_free held n limit l e =
    let f : limit - n ≡ suc (limit - (n + 1)) = omega arith in
    ap (free_from held n) f ∙ free-next held n (limit - (n + 1)) e
