-- Texts that are fields: names, numbers, hexadecimal digits, runs and lists.
use Rattle.std.proofs.Common.{◌≡◌, ℕ, ◌+◌, ◌/◌, ◌%◌, ◌^◌, ◌<◌, ◌≤◌, Bool, true, false, ◌&&◌, ◌||◌, not, nat_le, nat_lt, nat_eq, List, [], ◌∷◌, ◌++◌, length, get_or, map, refl, sym, ap, subst, ◌∙◌, arith}
use Rattle.std.specs.List.{list_all, flat_map, join_with_byte}
use Rattle.std.specs.Fmt.{decimal}
use Rattle.std.proofs.lemmas.Bool.{and_from, and_parts, le-leb, leb-true, ltb-true, ne_eqb, eqb-true, cond-true, cond-false}
use Rattle.std.proofs.lemmas.Fmt.{decimal_nonempty}
use Rattle.std.proofs.lemmas.List.Folds.{list_all-append}
use Rattle.tcmu_types.specs.Naming.{is_name, is_letter, is_name_byte}
use Rattle.tcmu_types.specs.Decimals.{is_digit}
use Rattle.tcmu_types.specs.Lists.{Every}
use Rattle.text_model.specs.Text.{runs, run_text, runs_text, numbers_text, serials_text}
use Rattle.text_model.specs.Fields.{is_field_byte, IsWord}
use Rattle.tcmu_types.specs.Hex.{hex_digit, hex_byte}
use Rattle.text_laws.specs.Bytes.{AreBytes}
use Rattle.text_laws.specs.Values.{IsNumber, AreNumbers}
use Rattle.text_laws.proofs.Numbers.{all_digits}
use Rattle.text_laws.proofs.Lists.{shown}
use Rattle.text_laws.proofs.Runs.{AreRuns, are_runs}
use Rattle.text_laws.proofs.Words.{weaker}

-- ---- bytes

pub in_field : (x : ℕ) → 36 ≤ x → x ≤ 126 → is_field_byte x ≡ true
in_field x low high =
    let low' : 33 ≤ x = omega (arith, low) in
    and_from _ _ (and_from _ _ (le-leb _ _ low') (le-leb _ _ high)) (ap not (ne_eqb x 35 (λ e. omega (arith, low, e))))

digit_in_field : (x : ℕ) → is_digit x ≡ true → is_field_byte x ≡ true
digit_in_field x h =
    let low : 48 ≤ x = leb-true 48 x (and_parts (nat_le 48 x) (nat_le x 57) h).0 in
    let high : x ≤ 57 = leb-true x 57 (and_parts (nat_le 48 x) (nat_le x 57) h).1 in
    in_field x (omega (arith, low)) (omega (arith, high))

pub or_cases : (a b : Bool) {P : Type 0} → (a || b) ≡ true → (a ≡ true → P) → (b ≡ true → P) → P
or_cases true b e f g = f refl
or_cases false b e f g = g e

pub name_byte : (x : ℕ) → is_name_byte x ≡ true → is_field_byte x ≡ true
name_byte x h =
    or_cases (is_letter x || (nat_le 48 x && nat_le x 57)) (nat_eq x 95) h
    (λ e. or_cases (is_letter x) (nat_le 48 x && nat_le x 57) e (λ l. letter l) (λ d. digit_in_field x d))
    (λ e. score (eqb-true _ _ e))
  where
    letter : is_letter x ≡ true → is_field_byte x ≡ true
    letter l =
        let low : 97 ≤ x = leb-true 97 x (and_parts (nat_le 97 x) (nat_le x 122) l).0 in
        let high : x ≤ 122 = leb-true x 122 (and_parts (nat_le 97 x) (nat_le x 122) l).1 in
        in_field x (omega (arith, low)) (omega (arith, high))

    score : x ≡ 95 → is_field_byte x ≡ true
    score e = in_field x (omega (arith, e)) (omega (arith, e))

-- ---- names and numbers

pub name_word : (name : List ℕ) → is_name name ≡ true → IsWord name
name_word name h =
    let p1 = and_parts (nat_le 1 (length name) && nat_le (length name) 16 && is_letter (get_or name 0 0)) (list_all is_name_byte name) h in
    let p2 = and_parts (nat_le 1 (length name) && nat_le (length name) 16) (is_letter (get_or name 0 0)) p1.0 in
    let p3 = and_parts (nat_le 1 (length name)) (nat_le (length name) 16) p2.0 in
    let some : 1 ≤ length name = leb-true _ _ p3.0 in
    record { some = omega (arith, some); bytes = weaker is_name_byte is_field_byte name_byte name p1.1 }

pub number_word : (n : ℕ) → IsNumber n → IsWord (decimal n)
number_word n lt = record { some = decimal_nonempty n lt; bytes = weaker is_digit is_field_byte digit_in_field (decimal n) (all_digits n lt) }

-- a word behind a word
pub words_join : (a b : List ℕ) → list_all is_field_byte a ≡ true → IsWord b → IsWord (a ++ b)
words_join a b h w = record { some = longer a; bytes = list_all-append is_field_byte a b ∙ and_from _ _ h w.bytes }
  where
    longer : (xs : List ℕ) → 0 < length (xs ++ b)
    longer [] = w.some
    longer (x ∷ xs) = omega arith

-- ---- hexadecimal digits

hex_in_field : (n : ℕ) → n < 16 → is_field_byte (hex_digit n) ≡ true
hex_in_field n lt = go (nat_lt n 10) refl
  where
    go : (b : Bool) → nat_lt n 10 ≡ b → is_field_byte (hex_digit n) ≡ true
    go true t =
        let small = ltb-true _ _ t in
        ap is_field_byte (cond-true _ _ _ t) ∙ in_field (48 + n) (omega arith) (omega (arith, small))
    go false t = ap is_field_byte (cond-false _ _ _ t) ∙ in_field (87 + n) (omega arith) (omega (arith, lt))

pub pair_fits : (b : ℕ) → b < 256 → list_all is_field_byte (hex_byte b) ≡ true
unfolding hex_byte
pair_fits b lt =
    let high : b / 16 < 16 = omega (arith, lt) in
    let low : b % 16 < 16 = omega arith in
    and_from _ _ (hex_in_field (b / 16) high) (and_from _ _ (hex_in_field (b % 16) low) refl)

hex_fits : (bytes : List ℕ) → AreBytes bytes → list_all is_field_byte (flat_map hex_byte bytes) ≡ true
hex_fits [] h = refl
hex_fits (b ∷ bytes) h = list_all-append is_field_byte (hex_byte b) (flat_map hex_byte bytes) ∙ and_from _ _ (pair_fits b h.0) (hex_fits bytes h.1)

pub hex_word : (bytes : List ℕ) → AreBytes bytes → 0 < length bytes → IsWord (flat_map hex_byte bytes)
unfolding hex_byte
hex_word bytes h some = record { some = go bytes some; bytes = hex_fits bytes h }
  where
    go : (bs : List ℕ) → 0 < length bs → 0 < length (flat_map hex_byte bs)
    go [] s = absurd (omega (arith, s))
    go (b ∷ bs) s = omega arith

-- ---- pieces joined by a byte

pub joined_pass : (p : ℕ → Bool) (at : ℕ) (ts : List (List ℕ)) → p at ≡ true → Every (λ t. list_all p t ≡ true) ts → list_all p (join_with_byte at ts) ≡ true
joined_pass p at [] a h = refl
joined_pass p at (t ∷ []) a h = h.0
joined_pass p at (t ∷ u ∷ ts) a h =
    list_all-append p t (at ∷ join_with_byte at (u ∷ ts)) ∙ and_from _ _ h.0 (and_from _ _ a (joined_pass p at (u ∷ ts) a h.1))

run_fits : (most : ℕ) (rs : List (ℕ × ℕ)) → most < 2 ^ 60 → AreRuns most rs → Every (λ t. list_all is_field_byte t ≡ true) (map run_text rs)
unfolding run_text
run_fits most [] lt h = tt
run_fits most (r ∷ rs) lt h = (one, run_fits most rs lt h.3)
  where
    one : list_all is_field_byte (run_text r) ≡ true
    one =
        let n : IsWord (decimal r.1) = number_word r.1 (omega (arith, lt, h.2)) in
        list_all-append is_field_byte (hex_byte r.0) (42 ∷ decimal r.1) ∙ and_from _ _ (pair_fits r.0 h.0) (and_from _ _ refl n.bytes)

pub runs_fit : (bytes : List ℕ) → AreBytes bytes → length bytes ≤ 1048576 → list_all is_field_byte (runs_text bytes) ≡ true
unfolding runs_text
runs_fit bytes h few = joined_pass is_field_byte 44 (map run_text (runs bytes)) refl (run_fits (length bytes) (runs bytes) (omega (arith, few)) (are_runs bytes h))

numbers_fit : (ns : List ℕ) → AreNumbers ns → Every (λ t. list_all is_field_byte t ≡ true) (map decimal ns)
numbers_fit [] h = tt
numbers_fit (n ∷ ns) h = (w.bytes, numbers_fit ns h.1)
  where
    w : IsWord (decimal n)
    w = number_word n h.0

numbers_word : (at n : ℕ) (ns : List ℕ) → is_field_byte at ≡ true → AreNumbers (n ∷ ns) → IsWord (numbers_text at (n ∷ ns))
unfolding numbers_text
numbers_word at n ns a h = record { some = go ns; bytes = joined_pass is_field_byte at (map decimal (n ∷ ns)) a (numbers_fit (n ∷ ns) h) }
  where
    first : IsWord (decimal n)
    first = number_word n h.0

    longer : (xs ys : List ℕ) → 0 < length xs → 0 < length (xs ++ ys)
    longer [] ys h = absurd (omega (arith, h))
    longer (x ∷ xs) ys h = omega arith

    go : (ms : List ℕ) → 0 < length (join_with_byte at (map decimal (n ∷ ms)))
    go [] = first.some
    go (m ∷ ms) = longer (decimal n) _ first.some

none_word : IsWord (serials_text [])
unfolding serials_text
none_word = record { some = omega arith; bytes = refl }

pub serials_word : (ns : List ℕ) → AreNumbers ns → IsWord (serials_text ns)
serials_word [] h = none_word
serials_word (n ∷ ns) h = subst IsWord (sym (shown n ns)) (numbers_word 44 n ns refl h)
