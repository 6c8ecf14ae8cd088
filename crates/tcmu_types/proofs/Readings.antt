-- What stands behind a reading that did not refuse.
use Rattle.std.proofs.Common.{◌≡◌, ◌≢◌, ℕ, ◌≤◌, Bool, true, false, ◌&&◌, not, nat_le, List, [], ◌∷◌, length, Option, Some, None, Result, Ok, Err, refl, sym, ap, ◌∙◌, arith, subst}
use Rattle.std.specs.List.{All, list_any}
use Rattle.std.specs.Option.{option_and_then, option_map, ok_or}
use Rattle.std.specs.Str.{bytes_eq}
use Rattle.std.specs.Str.Parse.{digits_value}
use Rattle.std.proofs.lemmas.Bool.{and_parts, leb-true, false≢true, or_parts}
use Rattle.std.proofs.lemmas.Option.{cond_some}
use Rattle.std.proofs.lemmas.List.Elements.{All-nil, All-cons}
use Rattle.std.proofs.lemmas.Slice.Eq.{bytes_eq-Decides}
use Rattle.tcmu_types.specs.Reading.{◌>>=◌, each}
use Rattle.tcmu_types.specs.Decimals.{is_number, number_of, is_rising, rising_of, IsWithin, IsRisingTo}
use Rattle.tcmu_types.specs.Fields.{only_if, pieces}

-- ---- options and results

pub same_some : {A : Type 0} (x y : A) → ◌≡◌ {A = Option A} (Some x) (Some y) → x ≡ y
same_some x y e = ap (λ o. elim o [ Some z ↦ z | None ↦ x ]) e

pub same_ok : {A E : Type 0} (x y : A) → ◌≡◌ {A = Result A E} (Ok x) (Ok y) → x ≡ y
same_ok x y e = ap (λ r. elim r [ Ok z ↦ z | Err f ↦ x ]) e

pub step : {A B E : Type 0} (r : Result A E) (f : A → Result B E) (y : B) → (r >>= f) ≡ Ok y → (x : A) × (r ≡ Ok x) × (f x ≡ Ok y)
step (Ok x) f y e = (x, refl, e)
step (Err e') f y e = absurd (cc)

pub was_some : {A E : Type 0} (o : Option A) (fault : E) (x : A) → ok_or o fault ≡ Ok x → o ≡ Some x
was_some (Some z) fault x e = ap (λ r. elim r [ Ok w ↦ Some w | Err w ↦ None ]) e
was_some None fault x e = absurd (cc)

-- a step that reads or names its fault
pub read_step : {A B E : Type 0} (o : Option A) (fault : E) (f : A → Result B E) (y : B) → (ok_or o fault >>= f) ≡ Ok y → (x : A) × (o ≡ Some x) × (f x ≡ Ok y)
read_step (Some x) fault f y e = (x, refl, e)
read_step None fault f y e = absurd (cc)

pub both : {A B : Type 0} (f : A → Option B) (o : Option A) (y : B) → option_and_then f o ≡ Some y → (x : A) × (o ≡ Some x) × (f x ≡ Some y)
both f (Some x) y e = (x, refl, e)
both f None y e = absurd (cc)

pub mapped : {A B : Type 0} (f : A → B) (o : Option A) (y : B) → option_map f o ≡ Some y → (x : A) × (o ≡ Some x) × (y ≡ f x)
mapped f (Some x) y e = (x, refl, sym (same_some (f x) y e))
mapped f None y e = absurd (cc)

pub passed : {A : Type 0} (p : A → Bool) (x y : A) → only_if p x ≡ Some y → (p x ≡ true) × (x ≡ y)
passed p x y e = cond_some _ _ _ e

-- ---- numbers

pub number_within : (low high n : ℕ) (text : List ℕ) → number_of low high text ≡ Some n → IsWithin low high n
unfolding number_of
number_within low high n text e =
    let h = cond_some _ _ _ e in
    let p = and_parts (is_number text && nat_le low (digits_value 10 text)) (nat_le (digits_value 10 text) high) h.0 in
    let q = and_parts (is_number text) (nat_le low (digits_value 10 text)) p.0 in
    let l : low ≤ digits_value 10 text = leb-true _ _ q.1 in
    let r : digits_value 10 text ≤ high = leb-true _ _ p.1 in
    record { least = omega (arith, l, h.1); most = omega (arith, r, h.1) }

-- what is read of each item
pub each_all : {A B : Type 0} (f : A → Option B) (P : B → Type 0) (xs : List A) (ys : List B) → ((x : A) (y : B) → f x ≡ Some y → P y) → each f xs ≡ Some ys → All P ys
each_all f P [] ys each_is e = subst (All P) (same_some [] ys e) (All-nil P)
each_all f P (x ∷ xs) ys each_is e =
    let a = both (λ y. option_map (λ zs. y ∷ zs) (each f xs)) (f x) ys e in
    let b = mapped (λ zs. a.0 ∷ zs) (each f xs) ys a.2 in
    subst (All P) (sym b.2) (All-cons P a.0 b.0 (each_is x a.0 a.1) (each_all f P xs b.0 each_is b.1))

pub rising_to : (at high : ℕ) (text ns : List ℕ) → rising_of at high text ≡ Some ns → IsRisingTo high ns
unfolding rising_of
rising_to at high text ns e =
    let a = both (only_if (λ ns. is_rising ns && nat_le (length ns) 64)) (each (number_of 1 high) (pieces at text)) ns e in
    let b = passed (λ ns. is_rising ns && nat_le (length ns) 64) a.0 ns a.2 in
    let c = and_parts (is_rising a.0) (nat_le (length a.0) 64) b.0 in
    let sound : IsRisingTo high a.0 = record {
      few = leb-true _ _ c.1;
      rising = c.0;
      each = each_all (number_of 1 high) (IsWithin 1 high) (pieces at text) a.0 (λ t n is. number_within 1 high n t is) a.1;
    } in
    subst (IsRisingTo high) b.1 sound

-- ---- tests

pub not_true : (b : Bool) → not b ≡ true → b ≡ false
not_true true e = absurd (cc)
not_true false e = refl

pub not_false : (b : Bool) → not b ≡ false → b ≡ true
not_false true e = refl
not_false false e = absurd (cc)

pub none_any : {A : Type 0} (p : A → Bool) (xs : List A) → list_any p xs ≡ false → All (λ x. p x ≡ false) xs
none_any p [] e = All-nil (λ x. p x ≡ false)
none_any p (x ∷ xs) e =
    let h = or_parts (p x) (list_any p xs) e in
    All-cons (λ x. p x ≡ false) x xs h.0 (none_any p xs h.1)

pub same_bytes : (a b : List ℕ) → bytes_eq a b ≡ true → a ≡ b
same_bytes a b e = (bytes_eq-Decides a b).0 e

pub other_bytes : (a b : List ℕ) → bytes_eq a b ≡ false → a ≢ b
other_bytes a b e is = false≢true (sym e ∙ (bytes_eq-Decides a b).1 is)
