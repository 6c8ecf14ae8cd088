-- What holds of each item of a list.
use Rattle.std.proofs.Common.{◌≡◌, ℕ, Bool, true, false, cond, List, [], ◌∷◌, ◌++◌, take, drop, map, suc, zero, ⊎_elim, refl, ap, Some, subst, slice_get}
use Rattle.std.specs.List.{list_any, filter}
use Rattle.std.proofs.lemmas.Bool.{cases_Bool, false≢true, or_parts}
use Rattle.tcmu_types.specs.Lists.{first_of, with_first, without_first, Every}

pub every-weaker : {X : Type 0} (P Q : X → Type 0) (xs : List X) → ((x : X) → P x → Q x) → Every P xs → Every Q xs
every-weaker P Q [] h e = tt
every-weaker P Q (x ∷ xs) h e = (h x e.0, every-weaker P Q xs h e.1)

pub every-map : {X Y : Type 0} (f : X → Y) (P : X → Type 0) (Q : Y → Type 0) (xs : List X) → ((x : X) → P x → Q (f x)) → Every P xs → Every Q (map f xs)
every-map f P Q [] h e = tt
every-map f P Q (x ∷ xs) h e = (h x e.0, every-map f P Q xs h e.1)

pub every-append : {X : Type 0} (P : X → Type 0) (xs ys : List X) → Every P xs → Every P ys → Every P (xs ++ ys)
every-append P [] ys a b = b
every-append P (x ∷ xs) ys a b = (a.0, every-append P xs ys a.1 b)

pub every-front : {X : Type 0} (P : X → Type 0) (xs ys : List X) → Every P (xs ++ ys) → Every P xs
every-front P [] ys h = tt
every-front P (x ∷ xs) ys h = (h.0, every-front P xs ys h.1)

pub every-back : {X : Type 0} (P : X → Type 0) (xs ys : List X) → Every P (xs ++ ys) → Every P ys
every-back P [] ys h = h
every-back P (x ∷ xs) ys h = every-back P xs ys h.1

pub every-take : {X : Type 0} (P : X → Type 0) (n : ℕ) (xs : List X) → Every P xs → Every P (take n xs)
every-take P zero xs a = tt
every-take P (suc n) [] a = tt
every-take P (suc n) (x ∷ xs) a = (a.0, every-take P n xs a.1)

pub every-drop : {X : Type 0} (P : X → Type 0) (n : ℕ) (xs : List X) → Every P xs → Every P (drop n xs)
every-drop P zero xs a = a
every-drop P (suc n) [] a = tt
every-drop P (suc n) (x ∷ xs) a = every-drop P n xs a.1

pub every-filter : {X : Type 0} (p : X → Bool) (P : X → Type 0) (xs : List X) → Every P xs → Every P (filter p xs)
every-filter p P [] h = tt
every-filter p P (x ∷ xs) h =
    ⊎_elim
    (λ (e : p x ≡ true). rw e (h.0, every-filter p P xs h.1))
    (λ (e : p x ≡ false). rw e (every-filter p P xs h.1))
    (cases_Bool (p x))

-- each that is kept passes
pub every-passes : {X : Type 0} (p : X → Bool) (xs : List X) → Every (λ x. p x ≡ true) (filter p xs)
every-passes p [] = tt
every-passes p (x ∷ xs) =
    ⊎_elim
    (λ (e : p x ≡ true). rw e (e, every-passes p xs))
    (λ (e : p x ≡ false). rw e (every-passes p xs))
    (cases_Bool (p x))

pub every-both : {X : Type 0} (P Q : X → Type 0) (xs : List X) → Every P xs → Every Q xs → Every (λ x. P x × Q x) xs
every-both P Q [] a b = tt
every-both P Q (x ∷ xs) a b = ((a.0, b.0), every-both P Q xs a.1 b.1)

pub every-all : {X : Type 0} (P : X → Type 0) (xs : List X) → ((x : X) → P x) → Every P xs
every-all P [] h = tt
every-all P (x ∷ xs) h = (h x, every-all P xs h)

-- one that passes the test is there
pub found : {X : Type 0} (p : X → Bool) (P : X → Type 0) (xs : List X) → Every P xs → list_any p xs ≡ true → (x : X) × (p x ≡ true) × P x
found p P [] h a = absurd (false≢true a)
found p P (x ∷ xs) h a =
    ⊎_elim
    (λ (e : p x ≡ true). (x, e, h.0))
    (λ (e : p x ≡ false). let r : list_any p xs ≡ true = rw e at a in found p P xs h.1 r)
    (cases_Bool (p x))

pub none-every : {X : Type 0} (p : X → Bool) (xs : List X) → list_any p xs ≡ false → Every (λ x. p x ≡ false) xs
none-every p [] h = tt
none-every p (x ∷ xs) h = let t = or_parts (p x) (list_any p xs) h in (t.0, none-every p xs t.1)

pub every-none : {X : Type 0} (p : X → Bool) (xs : List X) → Every (λ x. p x ≡ false) xs → list_any p xs ≡ false
every-none p [] h = refl
every-none p (x ∷ xs) h = rw (h.0) (every-none p xs h.1)

-- a filter by tests that agree on each item
pub filter_same : {X : Type 0} (p q : X → Bool) (xs : List X) → Every (λ x. p x ≡ q x) xs → filter p xs ≡ filter q xs
filter_same p q [] h = refl
filter_same p q (x ∷ xs) h = rw (h.0) (ap (λ ys. cond (q x) (x ∷ ys) ys) (filter_same p q xs h.1))

pub filter_all : {X : Type 0} (p : X → Bool) (xs : List X) → Every (λ x. p x ≡ true) xs → filter p xs ≡ xs
filter_all p [] h = refl
filter_all p (x ∷ xs) h = rw (h.0) (ap (λ ys. x ∷ ys) (filter_all p xs h.1))

pub map_same : {X : Type 0} (f : X → X) (xs : List X) → Every (λ x. f x ≡ x) xs → map f xs ≡ xs
map_same f [] h = refl
map_same f (x ∷ xs) h = rw (h.0) (ap (λ ys. x ∷ ys) (map_same f xs h.1))

-- changed items keep what the change keeps
pub map_kept : {X Y : Type 0} (f : X → X) (g : X → Y) (xs : List X) → ((x : X) → g (f x) ≡ g x) → map g (map f xs) ≡ map g xs
map_kept f g [] h = refl
map_kept f g (x ∷ xs) h = rw (h x) (ap (λ ys. g x ∷ ys) (map_kept f g xs h))

pub filter_twice : {X : Type 0} (p q r : X → Bool) (xs : List X) → ((x : X) → p x ≡ false → r x ≡ false) → ((x : X) → p x ≡ true → r x ≡ q x) → filter q (filter p xs) ≡ filter r xs
filter_twice p q r [] h k = refl
filter_twice p q r (x ∷ xs) h k =
    ⊎_elim
    (λ (e : p x ≡ true). rw (e, k x e) (ap (λ ys. cond (q x) (x ∷ ys) ys) (filter_twice p q r xs h k)))
    (λ (e : p x ≡ false). rw (e, h x e) (filter_twice p q r xs h k))
    (cases_Bool (p x))

pub map_filter : {X Y : Type 0} (g : X → Y) (p : Y → Bool) (xs : List X) → map g (filter (λ x. p (g x)) xs) ≡ filter p (map g xs)
map_filter g p [] = refl
map_filter g p (x ∷ xs) =
    ⊎_elim
    (λ (e : p (g x) ≡ true). rw e (ap (λ ys. g x ∷ ys) (map_filter g p xs)))
    (λ (e : p (g x) ≡ false). rw e (map_filter g p xs))
    (cases_Bool (p (g x)))

pub every-mapped : {X Y : Type 0} (g : X → Y) (P : Y → Type 0) (xs : List X) → Every P (map g xs) → Every (λ x. P (g x)) xs
every-mapped g P [] h = tt
every-mapped g P (x ∷ xs) h = (h.0, every-mapped g P xs h.1)

-- the first that passes is changed, or taken out
pub every-with_first : {X : Type 0} (p : X → Bool) (g : X → X) (P : X → Type 0) (xs : List X) → ((x : X) → p x ≡ true → P x → P (g x)) → Every P xs → Every P (with_first p g xs)
every-with_first p g P [] h e = tt
every-with_first p g P (x ∷ xs) h e =
    ⊎_elim
    (λ (z : p x ≡ true). rw z (h x z e.0, e.1))
    (λ (z : p x ≡ false). rw z (e.0, every-with_first p g P xs h e.1))
    (cases_Bool (p x))

pub every-without_first : {X : Type 0} (p : X → Bool) (P : X → Type 0) (xs : List X) → Every P xs → Every P (without_first p xs)
every-without_first p P [] e = tt
every-without_first p P (x ∷ xs) e =
    ⊎_elim
    (λ (z : p x ≡ true). rw z (e.1))
    (λ (z : p x ≡ false). rw z (e.0, every-without_first p P xs e.1))
    (cases_Bool (p x))

pub every-first : {X : Type 0} (p : X → Bool) (P : X → Type 0) (xs : List X) (x : X) → Every P xs → first_of p xs ≡ Some x → P x
every-first p P [] x e h = absurd (cc)
every-first p P (y ∷ xs) x e h =
    ⊎_elim
    (λ (z : p y ≡ true). let k : Some y ≡ Some x = rw z at h in let q : y ≡ x = cc in subst P q e.0)
    (λ (z : p y ≡ false). let k : first_of p xs ≡ Some x = rw z at h in every-first p P xs x e.1 k)
    (cases_Bool (p y))

pub every_at : {X : Type 0} (P : X → Type 0) (xs : List X) (i : ℕ) (x : X) → Every P xs → slice_get xs i ≡ Some x → P x
every_at P [] i x e h = absurd (cc)
every_at P (y ∷ xs) zero x e h = let q : y ≡ x = cc in subst P q e.0
every_at P (y ∷ xs) (suc i) x e h = every_at P xs i x e.1 h
