-- Sums over lists that change at one place, and what holds of each of a list.
use Rattle.std.proofs.Common.{◌≡◌, ℕ, zero, suc, ◌+◌, ◌≤◌, ◌≢◌, List, [], ◌∷◌, ◌++◌, set, sym, refl, ap, ◌∙◌, arith}
use mathlib.Core.Logic.{dite}
use mathlib.Core.Option.{some, some-injective, some-ne-none}
use native.Mathlib.Decide.{dec_le}
use lib.ListN.{get_elem?}
use Rattle.turn_lock.specs.Lists.{total, StandsOnce}
use Rattle.tcmu_types.specs.Lists.{Every}

module _ {A : Type 0} where
  module _ (g : A → ℕ) where
    pub total-append : (l m : List A) → total g (l ++ m) ≡ total g l + total g m
    total-append [] m = omega arith
    total-append (x ∷ xs) m = omega (arith, total-append xs m)

    pub total-set : (l : List A) (j : ℕ) (v w : A) → get_elem? l j ≡ some v → total g (set l j w) + g v ≡ total g l + g w
    total-set [] j v w e = absurd (some-ne-none v (sym e))
    total-set (x ∷ xs) zero v w e = omega (arith, ap g (some-injective x v e))
    total-set (x ∷ xs) (suc j) v w e = omega (arith, total-set xs j v w e)

    pub term_le : (l : List A) (j : ℕ) (v : A) → get_elem? l j ≡ some v → g v ≤ total g l
    term_le [] j v e = absurd (some-ne-none v (sym e))
    term_le (x ∷ xs) zero v e = omega (arith, ap g (some-injective x v e))
    term_le (x ∷ xs) (suc j) v e = omega (arith, term_le xs j v e)

    pub terms_le : (l : List A) (j k : ℕ) (v u : A) → k ≢ j → get_elem? l j ≡ some v → get_elem? l k ≡ some u → g v + g u ≤ total g l
    terms_le [] j k v u n e d = absurd (some-ne-none v (sym e))
    terms_le (x ∷ xs) zero zero v u n e d = absurd (n refl)
    terms_le (x ∷ xs) zero (suc k) v u n e d = omega (arith, ap g (some-injective x v e), term_le xs k u d)
    terms_le (x ∷ xs) (suc j) zero v u n e d = omega (arith, ap g (some-injective x u d), term_le xs j v e)
    terms_le (x ∷ xs) (suc j) (suc k) v u n e d = omega (arith, terms_le xs j k v u (λ h. n (ap suc h)) e d)

    pub total-zero : (l : List A) → ((j : ℕ) (v : A) → get_elem? l j ≡ some v → g v ≡ 0) → total g l ≡ 0
    total-zero [] h = refl
    total-zero (x ∷ xs) h = omega (arith, h 0 x refl, total-zero xs (λ j v e. h (suc j) v e))

    pub total-only : (l : List A) (j : ℕ) (v : A) → get_elem? l j ≡ some v → ((i : ℕ) (u : A) → i ≢ j → get_elem? l i ≡ some u → g u ≡ 0) → total g l ≡ g v
    total-only [] j v e h = absurd (some-ne-none v (sym e))
    total-only (x ∷ xs) zero v e h = omega (arith, ap g (some-injective x v e), total-zero xs (λ i u d. h (suc i) u (λ n. omega arith) d))
    total-only (x ∷ xs) (suc j) v e h = omega (arith, h 0 x (λ n. omega arith) refl, total-only xs j v e (λ i u ne d. h (suc i) u (λ n. ne (omega arith)) d))

  pub total-le : (f g : A → ℕ) (l : List A) → ((j : ℕ) (v : A) → get_elem? l j ≡ some v → f v ≤ g v) → total f l ≤ total g l
  total-le f g [] h = omega arith
  total-le f g (x ∷ xs) h = omega (arith, h 0 x refl, total-le f g xs (λ j v e. h (suc j) v e))

  pub Every-append : (P : A → Type 0) (xs ys : List A) → Every P xs → Every P ys → Every P (xs ++ ys)
  Every-append P [] ys h k = k
  Every-append P (x ∷ xs) ys h k = (h.0, Every-append P xs ys h.1 k)

  pub Every-map : (P Q : A → Type 0) (xs : List A) → ((x : A) → P x → Q x) → Every P xs → Every Q xs
  Every-map P Q [] f h = tt
  Every-map P Q (x ∷ xs) f h = (f x h.0, Every-map P Q xs f h.1)

pub StandsOnce-same : (k first : ℕ) {behind behind' n n' : ℕ} → n' ≡ n → behind' ≡ behind → StandsOnce k first behind n → StandsOnce k first behind' n'
StandsOnce-same k first e b q = record { before = λ h. e ∙ q.before h; among = λ l h. e ∙ q.among l (omega arith); after = λ h. e ∙ q.after (omega arith) }

pub StandsOnce-le : (k first behind n : ℕ) → StandsOnce k first behind n → n ≤ 1
StandsOnce-le k first behind n q =
    dite (dec_le first k)
    (λ low. dite (dec_le behind k) (λ high. omega (arith, q.after high)) (λ high. omega (arith, q.among low (omega arith))))
    (λ low. omega (arith, q.before (omega arith)))
