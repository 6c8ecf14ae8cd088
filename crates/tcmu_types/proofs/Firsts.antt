-- The first item that passes a test, by its place.
use Rattle.std.proofs.Common.{◌≡◌, ℕ, ◌+◌, ◌≤◌, Bool, true, false, cond, List, [], ◌∷◌, ◌++◌, length, map, get_or, Option, Some, None, refl, sym, ap, ◌∙◌, arith, subst, suc, zero, ⊎_elim, not, ltb}
use Rattle.std.proofs.Math.ListN.{set}
use Rattle.std.specs.List.{position, position_or_len, prefix_len, remove, list_any}
use Rattle.std.specs.Option.{MatchOption}
use Rattle.std.proofs.lemmas.Bool.{cases_Bool, ltb-false, false≢true, or_parts, or_right}
use Rattle.std.proofs.lemmas.List.Quantifiers.{position-Some}
use Rattle.tcmu_types.specs.Lists.{first_of, without_first, with_first, IsFirst}

pub is_first : {X : Type 0} (p : X → Bool) (xs : List X) (i : ℕ) → position p xs ≡ Some i → IsFirst p xs i
is_first p [] i h = absurd (cc)
is_first p (x ∷ xs) i h =
    record {
      within = (position-Some p (x ∷ xs) i x h).0;
      passes = λ d. (position-Some p (x ∷ xs) i d h).1;
      before = λ k d l. (position-Some p (x ∷ xs) i d h).2 k l;
    }

is_first_tail : {X : Type 0} (p : X → Bool) (x : X) (xs : List X) (i : ℕ) → IsFirst p (x ∷ xs) (suc i) → IsFirst p xs i
is_first_tail p x xs i f = record { within = omega (arith, f.within); passes = λ d. f.passes d; before = λ k d h. f.before (suc k) d (omega arith) }

pub first_of_at : {X : Type 0} (p : X → Bool) (xs : List X) (i : ℕ) (d : X) → IsFirst p xs i → first_of p xs ≡ Some (get_or xs i d)
first_of_at p [] i d f = absurd (omega (arith, f.within))
first_of_at p (x ∷ xs) zero d f = rw (f.passes x)
first_of_at p (x ∷ xs) (suc i) d f = let no : p x ≡ false = f.before 0 x (omega arith) in rw no (first_of_at p xs i d (is_first_tail p x xs i f))

pub with_first_at : {X : Type 0} (p : X → Bool) (g : X → X) (xs : List X) (i : ℕ) (d : X) → IsFirst p xs i → with_first p g xs ≡ set xs i (g (get_or xs i d))
with_first_at p g [] i d f = absurd (omega (arith, f.within))
with_first_at p g (x ∷ xs) zero d f = rw (f.passes x)
with_first_at p g (x ∷ xs) (suc i) d f = let no : p x ≡ false = f.before 0 x (omega arith) in rw no (ap (λ ys. x ∷ ys) (with_first_at p g xs i d (is_first_tail p x xs i f)))

pub without_first_at : {X : Type 0} (p : X → Bool) (xs : List X) (i : ℕ) → IsFirst p xs i → without_first p xs ≡ remove xs i
without_first_at p [] i f = absurd (omega (arith, f.within))
without_first_at p (x ∷ xs) zero f = rw (f.passes x)
without_first_at p (x ∷ xs) (suc i) f = let no : p x ≡ false = f.before 0 x (omega arith) in rw no (ap (λ ys. x ∷ ys) (without_first_at p xs i (is_first_tail p x xs i f)))

none_any_len : {X : Type 0} (p : X → Bool) (xs : List X) → length xs ≤ position_or_len p xs → list_any p xs ≡ false
none_any_len p [] h = refl
none_any_len p (x ∷ xs) h =
    ⊎_elim
    (λ (e : p x ≡ true). let k : length (x ∷ xs) ≤ cond (not true) (1 + prefix_len (λ y. not (p y)) xs) 0 = rw e at h in absurd (omega (arith, k)))
    (λ (e : p x ≡ false). rw e (none_any_len p xs (let k : length (x ∷ xs) ≤ cond (not false) (1 + prefix_len (λ y. not (p y)) xs) 0 = rw e at h in omega (arith, k))))
    (cases_Bool (p x))

-- nothing passes where there is no place
pub none_any : {X : Type 0} (p : X → Bool) (xs : List X) → position p xs ≡ None → list_any p xs ≡ false
none_any p xs h =
    ⊎_elim
    (λ (e : ltb (position_or_len p xs) (length xs) ≡ true). let k : Some (position_or_len p xs) ≡ None = rw e at h in absurd (cc))
    (λ (e : ltb (position_or_len p xs) (length xs) ≡ false). none_any_len p xs (ltb-false _ _ e))
    (cases_Bool (ltb (position_or_len p xs) (length xs)))

pub first_of_none : {X : Type 0} (p : X → Bool) (xs : List X) → list_any p xs ≡ false → first_of p xs ≡ None
first_of_none p [] h = refl
first_of_none p (x ∷ xs) h = let t = or_parts (p x) (list_any p xs) h in rw t.0 (first_of_none p xs t.1)

pub with_first_none : {X : Type 0} (p : X → Bool) (g : X → X) (xs : List X) → list_any p xs ≡ false → with_first p g xs ≡ xs
with_first_none p g [] h = refl
with_first_none p g (x ∷ xs) h = let t = or_parts (p x) (list_any p xs) h in rw t.0 (ap (λ ys. x ∷ ys) (with_first_none p g xs t.1))

pub any_at : {X : Type 0} (p : X → Bool) (xs : List X) (i : ℕ) → IsFirst p xs i → list_any p xs ≡ true
any_at p [] i f = absurd (omega (arith, f.within))
any_at p (x ∷ xs) zero f = rw (f.passes x) refl
any_at p (x ∷ xs) (suc i) f = let no : p x ≡ false = f.before 0 x (omega arith) in rw no (any_at p xs i (is_first_tail p x xs i f))

-- a list with the item at the first place changed
pub with_first_set : {X : Type 0} (p : X → Bool) (g : X → X) (xs : List X) (i : ℕ) (x y : X) → IsFirst p xs i → x ≡ get_or xs i x → y ≡ g x → set xs i y ≡ with_first p g xs
with_first_set p g xs i x y f hx hy = ap (λ z. set xs i z) (hy ∙ ap g hx) ∙ sym (with_first_at p g xs i x f)

pub place_told : {X : Type 0} (p : X → Bool) (xs : List X) (r : Option ℕ) → r ≡ position p xs → MatchOption r (list_any p xs ≡ false) (IsFirst p xs)
place_told p xs None h = none_any p xs (sym h)
place_told p xs (Some i) h = is_first p xs i (sym h)

pub without_first_none : {X : Type 0} (p : X → Bool) (xs : List X) → list_any p xs ≡ false → without_first p xs ≡ xs
without_first_none p [] h = refl
without_first_none p (x ∷ xs) h = let t = or_parts (p x) (list_any p xs) h in rw t.0 (ap (λ ys. x ∷ ys) (without_first_none p xs t.1))

pub without_first_missing : {X : Type 0} (p : X → Bool) (xs : List X) → first_of p xs ≡ None → without_first p xs ≡ xs
without_first_missing p [] h = refl
without_first_missing p (x ∷ xs) h =
    ⊎_elim
    (λ (e : p x ≡ true). let k : Some x ≡ None = rw e at h in absurd (cc))
    (λ (e : p x ≡ false). let k : first_of p xs ≡ None = rw e at h in rw e (ap (λ ys. x ∷ ys) (without_first_missing p xs k)))
    (cases_Bool (p x))

-- what was changed passes the other test
pub any-with_first : {X : Type 0} (p q : X → Bool) (g : X → X) (xs : List X) → ((x : X) → p x ≡ true → q (g x) ≡ true) → list_any p xs ≡ true → list_any q (with_first p g xs) ≡ true
any-with_first p q g [] h a = absurd (false≢true a)
any-with_first p q g (x ∷ xs) h a =
    ⊎_elim
    (λ (e : p x ≡ true). let t : q (g x) ≡ true = h x e in rw (e, t) refl)
    (λ (e : p x ≡ false). let b : list_any p xs ≡ true = rw e at a in rw e (or_right (q x) (list_any q (with_first p g xs)) (any-with_first p q g xs h b)))
    (cases_Bool (p x))

pub length-with_first : {X : Type 0} (p : X → Bool) (g : X → X) (xs : List X) → length (with_first p g xs) ≡ length xs
length-with_first p g [] = refl
length-with_first p g (x ∷ xs) =
    ⊎_elim
    (λ (e : p x ≡ true). rw e refl)
    (λ (e : p x ≡ false). rw e (ap suc (length-with_first p g xs)))
    (cases_Bool (p x))

pub length-without_first : {X : Type 0} (p : X → Bool) (xs : List X) → length (without_first p xs) ≤ length xs
length-without_first p [] = omega arith
length-without_first p (x ∷ xs) =
    ⊎_elim
    (λ (e : p x ≡ true). rw e (omega arith))
    (λ (e : p x ≡ false). rw e (omega (arith, length-without_first p xs)))
    (cases_Bool (p x))

pub any_first : {X : Type 0} (p : X → Bool) (xs : List X) (x : X) → first_of p xs ≡ Some x → list_any p xs ≡ true
any_first p [] x h = absurd (cc)
any_first p (y ∷ xs) x h =
    ⊎_elim
    (λ (e : p y ≡ true). rw e refl)
    (λ (e : p y ≡ false). let k : first_of p xs ≡ Some x = rw e at h in rw e (any_first p xs x k))
    (cases_Bool (p y))

pub none_first : {X : Type 0} (p : X → Bool) (xs : List X) → first_of p xs ≡ None → list_any p xs ≡ false
none_first p [] h = refl
none_first p (y ∷ xs) h =
    ⊎_elim
    (λ (e : p y ≡ true). let k : Some y ≡ None = rw e at h in absurd (cc))
    (λ (e : p y ≡ false). let k : first_of p xs ≡ None = rw e at h in rw e (none_first p xs k))
    (cases_Bool (p y))

-- ---- by the item

pub first-passes : {X : Type 0} (p : X → Bool) (xs : List X) (x : X) → first_of p xs ≡ Some x → p x ≡ true
first-passes p [] x f = absurd (cc)
first-passes p (y ∷ xs) x f =
    ⊎_elim
    (λ (k : p y ≡ true). let g : Some y ≡ Some x = rw k at f in let q : y ≡ x = cc in subst (λ z. p z ≡ true) q k)
    (λ (k : p y ≡ false). let g : first_of p xs ≡ Some x = rw k at f in first-passes p xs x g)
    (cases_Bool (p y))

pub first-append : {X : Type 0} (p : X → Bool) (xs : List X) (y : X) → p y ≡ false → first_of p (xs ++ y ∷ []) ≡ first_of p xs
first-append p [] y h = rw h refl
first-append p (x ∷ xs) y h =
    ⊎_elim
    (λ (e : p x ≡ true). rw e refl)
    (λ (e : p x ≡ false). rw e (first-append p xs y h))
    (cases_Bool (p x))

pub first-here : {X : Type 0} (p : X → Bool) (xs : List X) (y : X) → p y ≡ true → first_of p xs ≡ None → first_of p (xs ++ y ∷ []) ≡ Some y
first-here p [] y h n = rw h refl
first-here p (x ∷ xs) y h n =
    ⊎_elim
    (λ (e : p x ≡ true). let k : Some x ≡ None = rw e at n in absurd (cc))
    (λ (e : p x ≡ false). let k : first_of p xs ≡ None = rw e at n in rw e (first-here p xs y h k))
    (cases_Bool (p x))

-- the first that passes is changed, and keeps what the change keeps
pub map-with_first : {X Y : Type 0} (p : X → Bool) (f : X → X) (g : X → Y) (xs : List X) → ((x : X) → g (f x) ≡ g x) → map g (with_first p f xs) ≡ map g xs
map-with_first p f g [] h = refl
map-with_first p f g (x ∷ xs) h =
    ⊎_elim
    (λ (e : p x ≡ true). rw (e, h x) refl)
    (λ (e : p x ≡ false). rw e (ap (λ ys. g x ∷ ys) (map-with_first p f g xs h)))
    (cases_Bool (p x))
