-- Words behind spaces are read again.
use Rattle.std.proofs.Common.{◌≡◌, ℕ, ◌+◌, ◌≤◌, Bool, true, false, cond, ◌&&◌, not, nat_le, nat_lt, nat_eq, List, [], ◌∷◌, ◌++◌, length, get_or, take, All, refl, sym, ap, ◌∙◌, arith, append_assoc}
use Rattle.std.specs.List.{slice_split, filter, flat_map, list_all, position_or_len}
use Rattle.std.proofs.lemmas.Bool.{and_from, and_parts, leb-true, lt-ltb, ne_eqb, cond-true, or_right}
use Rattle.std.proofs.lemmas.List.{append-nil}
use Rattle.std.proofs.lemmas.List.Splits.{slice_split_at}
use Rattle.std.proofs.lemmas.List.Folds.{list_all-append}
use Rattle.std.proofs.lemmas.List.Sums.{AllPass-from_list_all}
use Rattle.tcmu_types.specs.Fields.{is_blank, is_allowed, before_hash, fields_of}
use Rattle.text_model.specs.Text.{spaced}
use Rattle.text_model.specs.Fields.{is_field_byte, IsWord, AreWords}
use Rattle.text_laws.proofs.Cuts.{one_more}

pub weaker : (p q : ℕ → Bool) → ((x : ℕ) → p x ≡ true → q x ≡ true) → (xs : List ℕ) → list_all p xs ≡ true → list_all q xs ≡ true
weaker p q f [] h = refl
weaker p q f (x ∷ xs) h = and_from _ _ (f x (and_parts _ _ h).0) (weaker p q f xs (and_parts _ _ h).1)

allowed_byte : (x : ℕ) → is_field_byte x ≡ true → is_allowed x ≡ true
allowed_byte x h = or_right (is_blank x) (nat_le 33 x && nat_le x 126) (and_parts _ (not (nat_eq x 35)) h).0

not_blank : (x : ℕ) → is_field_byte x ≡ true → is_blank x ≡ false
not_blank x h =
    let big : 33 ≤ x = leb-true _ _ (and_parts _ _ (and_parts _ _ h).0).0 in
    rw (ne_eqb x 9 (λ e. omega (arith, big, e)), ne_eqb x 13 (λ e. omega (arith, big, e)), ne_eqb x 32 (λ e. omega (arith, big, e))) refl

no_hash : (x : ℕ) → is_field_byte x ≡ true → nat_eq x 35 ≡ false
no_hash x h = go (nat_eq x 35) (and_parts _ _ h).1
  where
    go : (b : Bool) → not b ≡ true → b ≡ false
    go false e = refl
    go true e = absurd (cc)

word_not_blank : (w : List ℕ) → IsWord w → All (λ x. is_blank x ≡ false) w
word_not_blank w h = λ k d lt. not_blank (get_or w k d) (AllPass-from_list_all is_field_byte w h.bytes k d lt)

-- ---- fields

ended : (w f : List ℕ) (fs : List (List ℕ)) → spaced w (f ∷ fs) ++ 32 ∷ [] ≡ w ++ 32 ∷ (spaced f fs ++ 32 ∷ [])
ended w f fs = append_assoc w (32 ∷ (f ++ flat_map (λ x. 32 ∷ x) fs)) (32 ∷ [])

split_again : (w : List ℕ) (fs : List (List ℕ)) → IsWord w → AreWords fs → slice_split is_blank (spaced w fs ++ 32 ∷ []) ≡ w ∷ (fs ++ [] ∷ [])
split_again w [] h t = ap (λ l. slice_split is_blank (l ++ 32 ∷ [])) (append-nil w) ∙ slice_split_at is_blank w 32 [] (word_not_blank w h) refl
split_again w (f ∷ fs) h t =
    ap (slice_split is_blank) (ended w f fs) ∙ slice_split_at is_blank w 32 (spaced f fs ++ 32 ∷ []) (word_not_blank w h) refl
    ∙ ap (λ (l : List (List ℕ)). w ∷ l) (split_again f fs t.0 t.1)

kept : (fs : List (List ℕ)) → AreWords fs → filter (λ f. nat_lt 0 (length f)) (fs ++ [] ∷ []) ≡ fs
kept [] h = refl
kept (f ∷ fs) h = cond-true _ _ _ (lt-ltb _ _ h.0.some) ∙ ap (λ (l : List (List ℕ)). f ∷ l) (kept fs h.1)

pub fields_again : (w : List ℕ) (fs : List (List ℕ)) → IsWord w → AreWords fs → fields_of (spaced w fs ++ 32 ∷ []) ≡ w ∷ fs
unfolding fields_of
fields_again w fs h t = ap (filter (λ f. nat_lt 0 (length f))) (split_again w fs h t) ∙ kept (w ∷ fs) (h, t)

-- ---- the part before the hash

fields_allowed : (fs : List (List ℕ)) → AreWords fs → list_all is_allowed (flat_map (λ x. 32 ∷ x) fs) ≡ true
fields_allowed [] h = refl
fields_allowed (f ∷ fs) h = list_all-append is_allowed f (flat_map (λ x. 32 ∷ x) fs) ∙ and_from _ _ (weaker is_field_byte is_allowed allowed_byte f h.0.bytes) (fields_allowed fs h.1)

pub all_allowed : (w : List ℕ) (fs : List (List ℕ)) → IsWord w → AreWords fs → list_all is_allowed (spaced w fs ++ 32 ∷ []) ≡ true
all_allowed w fs h t =
    let front = list_all-append is_allowed w (flat_map (λ x. 32 ∷ x) fs) ∙ and_from _ _ (weaker is_field_byte is_allowed allowed_byte w h.bytes) (fields_allowed fs t) in
    list_all-append is_allowed (spaced w fs) (32 ∷ []) ∙ and_from _ _ front refl

abbrev unhashed : ℕ → Bool
unhashed x = not (nat_eq x 35)

word_unhashed : (x : ℕ) → is_field_byte x ≡ true → unhashed x ≡ true
word_unhashed x h = (and_parts _ _ h).1

fields_unhashed : (fs : List (List ℕ)) → AreWords fs → list_all unhashed (flat_map (λ x. 32 ∷ x) fs) ≡ true
fields_unhashed [] h = refl
fields_unhashed (f ∷ fs) h = list_all-append unhashed f (flat_map (λ x. 32 ∷ x) fs) ∙ and_from _ _ (weaker is_field_byte unhashed word_unhashed f h.0.bytes) (fields_unhashed fs h.1)

all_unhashed : (w : List ℕ) (fs : List (List ℕ)) → IsWord w → AreWords fs → list_all unhashed (spaced w fs ++ 32 ∷ []) ≡ true
all_unhashed w fs h t =
    let front = list_all-append unhashed w (flat_map (λ x. 32 ∷ x) fs) ∙ and_from _ _ (weaker is_field_byte unhashed word_unhashed w h.bytes) (fields_unhashed fs t) in
    list_all-append unhashed (spaced w fs) (32 ∷ []) ∙ and_from _ _ front refl

before : (text rest : List ℕ) → list_all unhashed text ≡ true → before_hash (text ++ 35 ∷ rest) ≡ text
unfolding before_hash
before [] rest h = refl
before (x ∷ text) rest h =
    ap (λ b. take (cond b (1 + position_or_len (λ y. nat_eq y 35) (text ++ 35 ∷ rest)) 0) (x ∷ (text ++ 35 ∷ rest))) (and_parts (unhashed x) _ h).0
    ∙ ap (λ k. take k (x ∷ (text ++ 35 ∷ rest))) (one_more (position_or_len (λ y. nat_eq y 35) (text ++ 35 ∷ rest)))
    ∙ ap (λ (l : List ℕ). x ∷ l) (before text rest (and_parts (unhashed x) _ h).1)

pub before_again : (w : List ℕ) (fs : List (List ℕ)) (rest : List ℕ) → IsWord w → AreWords fs → before_hash (spaced w fs ++ 32 ∷ 35 ∷ rest) ≡ spaced w fs ++ 32 ∷ []
before_again w fs rest h t = ap before_hash (sym (append_assoc (spaced w fs) (32 ∷ []) (35 ∷ rest))) ∙ before (spaced w fs ++ 32 ∷ []) rest (all_unhashed w fs h t)
