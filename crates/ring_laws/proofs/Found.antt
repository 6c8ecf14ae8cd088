-- What is found first in a list is found by another number too.
use Rattle.std.proofs.Common.{◌≡◌, ℕ, Bool, true, false, List, [], ◌∷◌, map, sym, ap, ◌∙◌, Some, subst, ⊎_elim, eqb}
use Rattle.std.proofs.lemmas.Bool.{cases_Bool, eq-eqb, ne_eqb, true≢false, or_left, or_right}
use Rattle.tcmu_types.specs.Lists.{first_of}
use Rattle.tcmu_types.specs.Numbers.{is_among, Differ}

found_among : {X : Type 0} (p : X → Bool) (g : X → ℕ) (xs : List X) (e : X) → first_of p xs ≡ Some e → is_among (map g xs) (g e) ≡ true
found_among p g [] e h = absurd (cc)
found_among p g (x ∷ xs) e h =
    ⊎_elim
    (λ (z : p x ≡ true). let m : Some x ≡ Some e = rw z at h in let s : x ≡ e = cc in or_left (eqb (g x) (g e)) (is_among (map g xs) (g e)) (eq-eqb (g x) (g e) (ap g s)))
    (λ (z : p x ≡ false). let m : first_of p xs ≡ Some e = rw z at h in or_right (eqb (g x) (g e)) (is_among (map g xs) (g e)) (found_among p g xs e m))
    (cases_Bool (p x))

-- what is found is also found by a number that differs
pub found_by : {X : Type 0} (p : X → Bool) (g : X → ℕ) (xs : List X) (e : X) → Differ (map g xs) → first_of p xs ≡ Some e → first_of (λ x. eqb (g x) (g e)) xs ≡ Some e
found_by p g [] e d h = absurd (cc)
found_by p g (x ∷ xs) e d h =
    ⊎_elim
    (λ (z : p x ≡ true).
    let m : Some x ≡ Some e = rw z at h in
    let s : x ≡ e = cc in
    let k : eqb (g x) (g e) ≡ true = eq-eqb (g x) (g e) (ap g s) in
    rw k m)
    (λ (z : p x ≡ false).
    let m : first_of p xs ≡ Some e = rw z at h in
    let k : eqb (g x) (g e) ≡ false = ne_eqb (g x) (g e) (λ q. true≢false (sym (found_among p g xs e m) ∙ subst (λ (y : ℕ). is_among (map g xs) y ≡ false) q d.0)) in
    rw k (found_by p g xs e d.1 m))
    (cases_Bool (p x))
