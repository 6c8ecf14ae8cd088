-- What blocks that are given back leave as it is.
use Rattle.std.proofs.Common.{◌≡◌, ◌≢◌, ℕ, zero, suc, List, [], ◌∷◌, Option, Some, None, refl, ap, ◌∙◌}
use Rattle.std.specs.Prelude.{slice_get}
use Rattle.region_model.specs.Regions.{home, put_where, put_home, returned, IsOther}

put_more : (x : Option (List ℕ)) (xs : List (Option (List ℕ))) (n : ℕ) (p : List ℕ) → put_home (x ∷ xs) (suc n) p ≡ x ∷ put_home xs n p
put_more x xs n p = by_place (slice_get xs n)
  where
    by_place : (o : Option (Option (List ℕ))) → put_where o (x ∷ xs) (suc n) p ≡ x ∷ put_where o xs n p
    by_place None = refl
    by_place (Some None) = refl
    by_place (Some (Some old)) = refl

put_leaves_home : (xs : List (Option (List ℕ))) (n : ℕ) (p : List ℕ) (k : ℕ) (block : List ℕ) → home (slice_get xs k) ≡ Some block → home (slice_get (put_home xs n p) k) ≡ Some block
put_leaves_home [] n p k block h = cc
put_leaves_home (None ∷ xs) zero p zero block h = cc
put_leaves_home (None ∷ xs) zero p (suc k) block h = h
put_leaves_home (Some b ∷ xs) zero p k block h = h
put_leaves_home (x ∷ xs) (suc n) p zero block h = ap (λ (w : List (Option (List ℕ))). home (slice_get w 0)) (put_more x xs n p) ∙ h
put_leaves_home (x ∷ xs) (suc n) p (suc k) block h =
    ap (λ (w : List (Option (List ℕ))). home (slice_get w (suc k))) (put_more x xs n p) ∙ put_leaves_home xs n p k block h

pub returned_leaves_home : (xs : List (Option (List ℕ))) (ns : List ℕ) (ps : List (List ℕ)) (k : ℕ) (block : List ℕ) → home (slice_get xs k) ≡ Some block
    → home (slice_get (returned xs ns ps) k) ≡ Some block
returned_leaves_home xs [] ps k block h = h
returned_leaves_home xs (n ∷ ns) [] k block h = h
returned_leaves_home xs (n ∷ ns) (p ∷ ps) k block h = put_leaves_home (returned xs ns ps) n p k block (returned_leaves_home xs ns ps k block h)

put_leaves_others : (xs : List (Option (List ℕ))) (n : ℕ) (p : List ℕ) (k : ℕ) → k ≢ n → slice_get (put_home xs n p) k ≡ slice_get xs k
put_leaves_others [] n p k away = refl
put_leaves_others (None ∷ xs) zero p zero away = absurd (away refl)
put_leaves_others (None ∷ xs) zero p (suc k) away = refl
put_leaves_others (Some b ∷ xs) zero p k away = refl
put_leaves_others (x ∷ xs) (suc n) p zero away = ap (λ (w : List (Option (List ℕ))). slice_get w 0) (put_more x xs n p)
put_leaves_others (x ∷ xs) (suc n) p (suc k) away =
    ap (λ (w : List (Option (List ℕ))). slice_get w (suc k)) (put_more x xs n p) ∙ put_leaves_others xs n p k (λ (e : k ≡ n). away (ap suc e))

pub returned_leaves_others : (xs : List (Option (List ℕ))) (ns : List ℕ) (ps : List (List ℕ)) (k : ℕ) → IsOther k ns → slice_get (returned xs ns ps) k ≡ slice_get xs k
returned_leaves_others xs [] ps k away = refl
returned_leaves_others xs (n ∷ ns) [] k away = refl
returned_leaves_others xs (n ∷ ns) (p ∷ ps) k away =
    put_leaves_others (returned xs ns ps) n p k away.0 ∙ returned_leaves_others xs ns ps k away.1
