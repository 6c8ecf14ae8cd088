-- A text is cut again where it was joined.
use Rattle.std.proofs.Common.{◌≡◌, ℕ, suc, ◌+◌, ◌<◌, ◌≤◌, true, cond, not, nat_eq, List, [], ◌∷◌, ◌++◌, length, take, drop, Option, Some, None, Ok, refl, ap, ◌∙◌, arith, length-append}
use Rattle.std.specs.List.{list_all, position, position_or_len}
use Rattle.std.specs.Option.{option_map}
use Rattle.std.proofs.lemmas.Bool.{and_parts, eq-eqb, lt-ltb, le-ltb, cond-true, cond-false}
use Rattle.tcmu_types.specs.Fields.{cut_at}
use Rattle.text_model.specs.Config.{part}
use Rattle.text_model.specs.declared.faults.ConfigFault.{ConfigFault}
use Rattle.text_laws.specs.Configs.{is_other}

pub one_more : (n : ℕ) → 1 + n ≡ suc n
one_more n = omega arith

next : (n : ℕ) → n + 1 ≡ suc n
next n = omega arith

pub first_at : (at : ℕ) (t rest : List ℕ) → list_all (is_other at) t ≡ true → position_or_len (λ b. nat_eq b at) (t ++ at ∷ rest) ≡ length t
first_at at [] rest h = ap (λ b. cond (not b) (1 + position_or_len (λ y. nat_eq y at) rest) 0) (eq-eqb at at refl)
first_at at (x ∷ t) rest h =
    ap (λ b. cond b (1 + position_or_len (λ y. nat_eq y at) (t ++ at ∷ rest)) 0) (and_parts (is_other at x) _ h).0
    ∙ one_more (position_or_len (λ y. nat_eq y at) (t ++ at ∷ rest)) ∙ ap suc (first_at at t rest (and_parts (is_other at x) _ h).1)

pub none_at : (at : ℕ) (t : List ℕ) → list_all (is_other at) t ≡ true → position (λ b. nat_eq b at) t ≡ None
none_at at t h = cond-false _ _ _ (le-ltb _ _ past)
  where
    all : (xs : List ℕ) → list_all (is_other at) xs ≡ true → position_or_len (λ b. nat_eq b at) xs ≡ length xs
    all [] h = refl
    all (x ∷ xs) h =
        ap (λ b. cond b (1 + position_or_len (λ y. nat_eq y at) xs) 0) (and_parts (is_other at x) _ h).0
        ∙ one_more (position_or_len (λ y. nat_eq y at) xs) ∙ ap suc (all xs (and_parts (is_other at x) _ h).1)

    past : length t ≤ position_or_len (λ b. nat_eq b at) t
    past = omega (arith, all t h)

take_front : (t rest : List ℕ) → take (length t) (t ++ rest) ≡ t
take_front [] rest = refl
take_front (x ∷ t) rest = ap (λ (l : List ℕ). x ∷ l) (take_front t rest)

drop_front : (at : ℕ) (t rest : List ℕ) → drop (suc (length t)) (t ++ at ∷ rest) ≡ rest
drop_front at [] rest = refl
drop_front at (x ∷ t) rest = drop_front at t rest

pub cut_again : (at : ℕ) (t rest : List ℕ) → list_all (is_other at) t ≡ true → cut_at at (t ++ at ∷ rest) ≡ Some (t, rest)
unfolding cut_at
cut_again at t rest h =
    let place = first_at at t rest h in
    let within : position_or_len (λ b. nat_eq b at) (t ++ at ∷ rest) < length (t ++ at ∷ rest) = omega (arith, place, length-append t (at ∷ rest)) in
    ap (option_map (λ i. (take i (t ++ at ∷ rest), drop (i + 1) (t ++ at ∷ rest)))) (cond-true _ _ _ (lt-ltb _ _ within) ∙ ap (λ (k : ℕ). Some k) place)
    ∙ ap (λ (k : ℕ). Some (take (length t) (t ++ at ∷ rest), drop k (t ++ at ∷ rest))) (next (length t))
    ∙ ap (λ (l : List ℕ). Some (l, drop (suc (length t)) (t ++ at ∷ rest))) (take_front t (at ∷ rest))
    ∙ ap (λ (l : List ℕ). Some (t, l)) (drop_front at t rest)

pub part_again : {A : Type 0} (e : ConfigFault) (read : List ℕ → Option A) (t rest : List ℕ) (x : A) → list_all (is_other 47) t ≡ true → read t ≡ Some x → part e read (t ++ 47 ∷ rest) ≡ Ok (x, rest)
part_again {A} e read t rest x h r = rw (cut_again 47 t rest h) (rw r refl)
