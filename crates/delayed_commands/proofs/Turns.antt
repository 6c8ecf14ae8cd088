-- A queue whose commands go round once, each leaving or going behind the others.
use Rattle.std.proofs.Common.{◌≡◌, ℕ, ◌+◌, ◌<◌, Bool, List, [], ◌∷◌, ◌++◌, length, take, drop, map, get_or, sym, ap, ◌∙◌, arith, append_assoc}
use Rattle.std.specs.List.{filter}
use Rattle.std.proofs.lemmas.List.{take_more, drop_more, map-append}
use Rattle.std.proofs.lemmas.List.Elements.{filter-append}
use Rattle.tcmu_types.specs.Data.{DoneData}
use Rattle.tcmu_model.specs.Device.{Delayed}

record Front (xs : List Delayed) (k : ℕ) : Type 0 where
  pub first : Delayed
  pub behind : drop k xs ≡ first ∷ drop (k + 1) xs
  pub before : take (k + 1) xs ≡ take k xs ++ first ∷ []

front_at : (xs : List Delayed) (k : ℕ) → k < length xs → Front xs k
front_at [] k h = absurd (omega (arith, h))
front_at (x ∷ xs) k h = record { first = get_or (x ∷ xs) k x; behind = drop_more (x ∷ xs) k x h; before = take_more (x ∷ xs) k x h }

-- the first of those that have not gone round yet stands at the front
first_is : (old xs ends : List Delayed) (k : ℕ) (f : Front old k) → xs ≡ drop k old ++ ends → xs ≡ f.first ∷ (drop (k + 1) old ++ ends)
first_is old xs ends k f e = e ∙ ap (λ ys. ys ++ ends) f.behind

pub turned_round : (p : Delayed → Bool) (old xs ys : List Delayed) (k : ℕ) → k < length old → xs ≡ drop k old ++ filter p (take k old) → ys ≡ drop 1 xs ++ filter p (take 1 xs) → ys ≡ drop (k + 1) old ++ filter p (take (k + 1) old)
turned_round p old xs ys k h e t =
    let f : Front old k = front_at old k h in
    let g : xs ≡ f.first ∷ (drop (k + 1) old ++ filter p (take k old)) = first_is old xs (filter p (take k old)) k f e in
    let a : drop 1 xs ++ filter p (take 1 xs) ≡ (drop (k + 1) old ++ filter p (take k old)) ++ filter p (f.first ∷ []) = ap (λ zs. drop 1 zs ++ filter p (take 1 zs)) g in
    let b : (drop (k + 1) old ++ filter p (take k old)) ++ filter p (f.first ∷ []) ≡ drop (k + 1) old ++ (filter p (take k old) ++ filter p (f.first ∷ [])) = append_assoc (drop (k + 1) old) (filter p (take k old)) (filter p (f.first ∷ [])) in
    let c : filter p (take k old) ++ filter p (f.first ∷ []) ≡ filter p (take (k + 1) old) = sym (filter-append p (take k old) (f.first ∷ [])) ∙ ap (filter p) (sym f.before) in
    t ∙ (a ∙ (b ∙ ap (λ zs. drop (k + 1) old ++ zs) c))

pub logged_round : (p : Delayed → Bool) (g : Delayed → DoneData) (old xs ends : List Delayed) (k : ℕ) (start log new : List DoneData) → k < length old → xs ≡ drop k old ++ ends → log ≡ start ++ map g (filter p (take k old)) → new ≡ log ++ map g (filter p (take 1 xs)) → new ≡ start ++ map g (filter p (take (k + 1) old))
logged_round p g old xs ends k start log new h e l n =
    let f : Front old k = front_at old k h in
    let first : take 1 xs ≡ f.first ∷ [] = ap (take 1) (first_is old xs ends k f e) in
    let a : new ≡ (start ++ map g (filter p (take k old))) ++ map g (filter p (f.first ∷ [])) = n ∙ (ap (λ ys. log ++ map g (filter p ys)) first ∙ ap (λ ys. ys ++ map g (filter p (f.first ∷ []))) l) in
    let b : (start ++ map g (filter p (take k old))) ++ map g (filter p (f.first ∷ [])) ≡ start ++ (map g (filter p (take k old)) ++ map g (filter p (f.first ∷ []))) = append_assoc start (map g (filter p (take k old))) (map g (filter p (f.first ∷ []))) in
    let c : map g (filter p (take k old)) ++ map g (filter p (f.first ∷ [])) ≡ map g (filter p (take (k + 1) old)) =
    sym (map-append g (filter p (take k old)) (filter p (f.first ∷ []))) ∙ ap (map g) (sym (filter-append p (take k old) (f.first ∷ [])) ∙ ap (filter p) (sym f.before)) in
    a ∙ (b ∙ ap (λ zs. start ++ zs) c)

pub closed_round : (g : Delayed → DoneData) (old xs : List Delayed) (k : ℕ) (start log new : List DoneData) → k < length old → xs ≡ drop k old → log ≡ start ++ map g (take k old) → new ≡ log ++ map g (take 1 xs) → new ≡ start ++ map g (take (k + 1) old)
closed_round g old xs k start log new h e l n =
    let f : Front old k = front_at old k h in
    let first : take 1 xs ≡ f.first ∷ [] = ap (take 1) (e ∙ f.behind) in
    let a : new ≡ (start ++ map g (take k old)) ++ map g (f.first ∷ []) = n ∙ (ap (λ ys. log ++ map g ys) first ∙ ap (λ ys. ys ++ map g (f.first ∷ [])) l) in
    let b : (start ++ map g (take k old)) ++ map g (f.first ∷ []) ≡ start ++ (map g (take k old) ++ map g (f.first ∷ [])) = append_assoc start (map g (take k old)) (map g (f.first ∷ [])) in
    let c : map g (take k old) ++ map g (f.first ∷ []) ≡ map g (take (k + 1) old) = sym (map-append g (take k old) (f.first ∷ [])) ∙ ap (map g) (sym f.before) in
    a ∙ (b ∙ ap (λ zs. start ++ zs) c)
