-- Pieces that were joined are cut again.
use Rattle.std.proofs.Common.{◌≡◌, ℕ, ◌^◌, ◌<◌, ◌≤◌, true, false, ◌&&◌, nat_le, nat_eq, List, [], ◌∷◌, ◌++◌, length, get_or, map, Some, All, refl, sym, ap, ◌∙◌, arith, codes}
use Rattle.std.specs.List.{join_with_byte, list_all}
use Rattle.std.specs.Str.{bytes_eq}
use Rattle.std.specs.Option.{option_and_then}
use Rattle.std.specs.Fmt.{decimal}
use Rattle.std.proofs.lemmas.Bool.{and_from, and_parts, le-leb, leb-true, ne_eqb, eq-eqb, cond-true, cond-false}
use Rattle.std.proofs.lemmas.Fmt.{decimal_nonempty}
use Rattle.std.proofs.lemmas.List.{append-nil}
use Rattle.std.proofs.lemmas.List.Elements.{All-head, All-tail}
use Rattle.std.proofs.lemmas.List.Splits.{slice_split_none, slice_split_at}
use Rattle.std.proofs.lemmas.List.Sums.{AllPass-from_list_all}
use Rattle.tcmu_types.specs.Reading.{each}
use Rattle.text_model.specs.Fields.{serials_of}
use Rattle.tcmu_types.specs.Decimals.{is_digit, number_of, is_rising, rising_of, IsWithin, IsRisingTo}
use Rattle.tcmu_types.specs.Fields.{pieces, only_if}
use Rattle.text_model.specs.Text.{numbers_text, serials_text}
use Rattle.tcmu_types.specs.Lists.{Every}
use Rattle.tcmu_types.proofs.Everies.{every-weaker}
use Rattle.text_laws.specs.Pieces.{RisingAgain, SerialsAgain}
use Rattle.text_laws.specs.Values.{IsNumber, AreNumbers}
use Rattle.text_laws.proofs.Numbers.{all_digits, number_again}

abbrev pub Lacks : ℕ → List ℕ → Type 0
Lacks at text = All (λ x. nat_eq x at ≡ false) text

abbrev pub EachLacks : ℕ → List (List ℕ) → Type 0
EachLacks at [] = Unit {0}
EachLacks at (p ∷ ps) = Lacks at p × EachLacks at ps

pub pieces_again : (at : ℕ) (p : List ℕ) (ps : List (List ℕ)) → Lacks at p → EachLacks at ps → pieces at (join_with_byte at (p ∷ ps)) ≡ p ∷ ps
pieces_again at p [] h t = slice_split_none (λ x. nat_eq x at) p h
pieces_again at p (q ∷ ps) h t =
    slice_split_at (λ x. nat_eq x at) p at (join_with_byte at (q ∷ ps)) h (eq-eqb at at refl) ∙ ap (λ (l : List (List ℕ)). p ∷ l) (pieces_again at q ps t.0 t.1)

pub number_lacks : (at n : ℕ) → at < 48 → n < 2 ^ 64 → Lacks at (decimal n)
number_lacks at n low lt = λ k d in_it.
    let d1 : is_digit (get_or (decimal n) k d) ≡ true = AllPass-from_list_all is_digit (decimal n) (all_digits n lt) k d in_it in
    let big : 48 ≤ get_or (decimal n) k d = leb-true _ _ (and_parts _ _ d1).0 in
    ne_eqb _ _ (λ e. omega (arith, big, low, e))

abbrev AreWithin : ℕ → List ℕ → Type 0
AreWithin high ns = Every (IsWithin 1 high) ns

pub within_each : (high : ℕ) (ns : List ℕ) → All (IsWithin 1 high) ns → AreWithin high ns
within_each high [] h = tt
within_each high (n ∷ ns) h = (All-head (IsWithin 1 high) n ns h, within_each high ns (All-tail (IsWithin 1 high) n ns h))

-- rising serials of lines are numbers of the code
pub rising_numbers : (ns : List ℕ) → IsRisingTo 1000000000 ns → AreNumbers ns
rising_numbers ns is = every-weaker (IsWithin 1 1000000000) IsNumber ns (λ n w. omega (arith, w.most)) (within_each 1000000000 ns is.each)

numbers_lack : (at high : ℕ) (ns : List ℕ) → at < 48 → high < 2 ^ 60 → AreWithin high ns → EachLacks at (map decimal ns)
numbers_lack at high [] low lt h = tt
numbers_lack at high (n ∷ ns) low lt h = (number_lacks at n low (omega (arith, lt, h.0.most)), numbers_lack at high ns low lt h.1)

numbers_each : (high : ℕ) (ns : List ℕ) → high < 2 ^ 60 → AreWithin high ns → each (number_of 1 high) (map decimal ns) ≡ Some ns
numbers_each high [] lt h = refl
numbers_each high (n ∷ ns) lt h = rw (number_again 1 high n h.0.least h.0.most lt) (rw (numbers_each high ns lt h.1) refl)

pub rising_again : RisingAgain
unfolding rising_of numbers_text
rising_again at high [] low lt is some = absurd (omega (arith, some))
rising_again at high (n ∷ ns) low lt is some =
    let h = within_each high (n ∷ ns) is.each in
    let lack = numbers_lack at high (n ∷ ns) low lt h in
    let cut = pieces_again at (decimal n) (map decimal ns) lack.0 lack.1 in
    ap (λ ps. option_and_then (only_if (λ ms. is_rising ms && nat_le (length ms) 64)) (each (number_of 1 high) ps)) cut
    ∙ ap (option_and_then (only_if (λ ms. is_rising ms && nat_le (length ms) 64))) (numbers_each high (n ∷ ns) lt h)
    ∙ cond-true _ _ _ (and_from _ _ is.rising (le-leb _ _ is.few))

-- a text that begins with a digit is not the word `none`
pub not_none : (n : ℕ) (rest : List ℕ) → IsNumber n → bytes_eq (decimal n ++ rest) (codes "none") ≡ false
not_none n rest lt = go (decimal n) (decimal_nonempty n lt) (all_digits n lt)
  where
    go : (ds : List ℕ) → 0 < length ds → list_all is_digit ds ≡ true → bytes_eq (ds ++ rest) (codes "none") ≡ false
    go [] some all = absurd (omega (arith, some))
    go (d ∷ ds) some all =
        let small : d ≤ 57 = leb-true d 57 (and_parts (nat_le 48 d) (nat_le d 57) (and_parts (is_digit d) (list_all is_digit ds) all).0).1 in
        ap (λ b. b && bytes_eq (ds ++ rest) (codes "one")) (ne_eqb d 110 (λ e. omega (arith, small, e)))

pub joined : (at n : ℕ) (ns : List ℕ) → (rest : List ℕ) × (numbers_text at (n ∷ ns) ≡ decimal n ++ rest)
unfolding numbers_text
joined at n [] = ([], sym (append-nil (decimal n)))
joined at n (m ∷ ns) = (at ∷ join_with_byte at (map decimal (m ∷ ns)), refl)

pub shown : (n : ℕ) (ns : List ℕ) → serials_text (n ∷ ns) ≡ numbers_text 44 (n ∷ ns)
unfolding serials_text
shown n ns = cond-false _ _ _ (ne_eqb (length (n ∷ ns)) 0 (λ e. omega (arith, e)))

read_of : (n : ℕ) (ns : List ℕ) → IsRisingTo 1000000000 (n ∷ ns) → serials_of (numbers_text 44 (n ∷ ns)) ≡ Some (n ∷ ns)
unfolding serials_of
read_of n ns is =
    let first = (within_each 1000000000 (n ∷ ns) is.each).0 in
    let j = joined 44 n ns in
    let test : bytes_eq (numbers_text 44 (n ∷ ns)) (codes "none") ≡ false = ap (λ t. bytes_eq t (codes "none")) j.1 ∙ not_none n j.0 (omega (arith, first.most)) in
    cond-false _ _ _ test ∙ rising_again 44 1000000000 (n ∷ ns) (omega arith) (omega arith) is (omega arith)

none_again : serials_of (serials_text []) ≡ Some []
unfolding serials_of serials_text
none_again = refl

pub serials_again : SerialsAgain
serials_again [] is = none_again
serials_again (n ∷ ns) is = ap serials_of (shown n ns) ∙ read_of n ns is
