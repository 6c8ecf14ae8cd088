-- A block of the area whose bytes were lent: it keeps its length.
use Rattle.std.proofs.Common.{◌≡◌, ℕ, zero, suc, ◌<◌, List, [], ◌∷◌, ◌++◌, length, drop, set, get_or, Bool, true, false, not, Option, Some, None, length-append, refl, ◌∙◌, sym, arith}
use lib.Dec.{T}
use Rattle.std.specs.Prelude.{slice_get, option_map}
use Rattle.std.proofs.lemmas.List.{length-take, length-drop}
use Rattle.region_model.specs.Regions.{AreSized, fitted, home, is_home}
use Rattle.shm_region.proofs.Sized.{sized-get}
use Rattle.region_model.proofs.Areas.{sized-set}

length-fitted : (old new : List ℕ) → length (fitted old new) ≡ length old
length-fitted old new = omega (arith, length-take (length old) (new ++ drop (length new) old), length-append new (drop (length new) old), length-drop (length new) old)

pub sized-fitted : (size k : ℕ) (w : List ℕ) (xs : List (Option (List ℕ))) (o d : Option (List ℕ)) → AreSized size xs → k < length xs → get_or xs k d ≡ o
    → AreSized size (set xs k (option_map (λ old. fitted old w) o))
sized-fitted size k w xs None d h inside is = sized-set size xs k None tt h
sized-fitted size k w xs (Some b) d h inside is = sized-set size xs k (Some (fitted b w)) (length-fitted b w ∙ sized-get size k b xs d h inside is, tt) h

pub home-got : (xs : List (Option (List ℕ))) (k : ℕ) (o d : Option (List ℕ)) → k < length xs → get_or xs k d ≡ o → home (slice_get xs k) ≡ o
home-got [] k o d inside is = absurd (omega arith)
home-got (x ∷ xs) zero o d inside is = is
home-got (x ∷ xs) (suc k) o d inside is = home-got xs k o d (omega arith) is

pub home-inside : (xs : List (Option (List ℕ))) (k : ℕ) → is_home (slice_get xs k) ≡ true → k < length xs
home-inside [] k h = cc
home-inside (x ∷ xs) zero h = omega arith
home-inside (x ∷ xs) (suc k) h = omega (arith, home-inside xs k h)

-- what a test of it tells
pub home-told : (xs : List (Option (List ℕ))) (k : ℕ) (told : Bool) → told ≡ is_home (slice_get xs k) → T told → is_home (slice_get xs k) ≡ true
home-told xs k true e h = sym e
home-told xs k false e h = absurd h

pub home-none : (xs : List (Option (List ℕ))) (k : ℕ) (told : Bool) → told ≡ is_home (slice_get xs k) → T (not told) → home (slice_get xs k) ≡ None
home-none [] k told e h = refl
home-none (None ∷ xs) zero told e h = refl
home-none (Some b ∷ xs) zero true e h = absurd h
home-none (Some b ∷ xs) zero false e h = cc
home-none (x ∷ xs) (suc k) told e h = home-none xs k told e h
