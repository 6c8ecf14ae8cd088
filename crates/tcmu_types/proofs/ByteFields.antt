-- Laws of bytes that are written and read.
use Rattle.std.proofs.Common.{◌≡◌, ℕ, ◌+◌, ◌-◌, ◌*◌, ◌^◌, ◌<◌, ◌≤◌, List, [], ◌∷◌, ◌++◌, length, take, drop, sym, ◌∙◌, ap, arith, append_assoc, length-append, length-drop}
use Rattle.std.proofs.lemmas.List.{drop_at, take_at, drop-append-le, length-take, length-replicate, drop-drop, take_rest, drop_all, take-append-drop, append-nil}
use Rattle.std.proofs.Math.Seq.{drop-append-add}
use Rattle.std.proofs.Math.Nat.{mod-eq_of_lt}
use borrow.Rule.Slice.PartMut.{put_mid}
use Rattle.byteorder.specs.Endian.{little_bytes, little_number}
use Rattle.byteorder.specs.Numbers.{length-bytes_low_first, little_number-reads_back, little_from-append}
use Rattle.tcmu_types.specs.ByteFields.{le, field, padded, put}
use Rattle.tcmu_types.specs.Overwriting.{zeros}

pub length-le : (n x : ℕ) → length (le n x) ≡ n
unfolding le
length-le n x = length-bytes_low_first 0 n x

pub length-zeros : (n : ℕ) → length (zeros n) ≡ n
unfolding zeros
length-zeros n = length-replicate n 0

pub length-joined : (s t : List ℕ) → length (s ++ t) ≡ length s + length t
length-joined s t = length-append s t

-- the lengths of what is written
pub ruleset lengths = (arith, length-le, length-zeros, length-joined)

pub length-padded : (n : ℕ) (xs : List ℕ) → length xs ≤ n → length (padded n xs) ≡ n
unfolding padded
length-padded n xs h = length-append xs (zeros (n - length xs)) ∙ omega (arith, length-zeros (n - length xs))

pub length-put : (xs : List ℕ) (at : ℕ) (bytes : List ℕ) → at + length bytes ≤ length xs → length (put xs at bytes) ≡ length xs
unfolding put
length-put xs at bytes h =
    simp (length-append, length-take, length-drop) (omega arith)

sum_is : (a b c : ℕ) → a + b + c ≡ a + (b + c)
sum_is a b c = omega arith

-- one write behind another is one write
pub put-put : (xs : List ℕ) (at j : ℕ) (s t : List ℕ) → j ≡ at + length s → j + length t ≤ length xs → put (put xs at s) j t ≡ put xs at (s ++ t)
unfolding put
put-put xs at j s t place room =
    let front : length (take at xs ++ s) ≡ j = simp (length-append, length-take) (omega arith) in
    let whole : List ℕ = (take at xs ++ s) ++ drop (at + length s) xs in
    let first : take j whole ≡ take at xs ++ s = take_at (take at xs ++ s) (drop (at + length s) xs) j front in
    let rest : drop (j + length t) whole ≡ drop (at + length (s ++ t)) xs =
    ap (λ (m : ℕ). drop m whole) (ap (λ (m : ℕ). m + length t) (sym front))
    ∙ drop-append-add (take at xs ++ s) (drop (at + length s) xs) (length t)
    ∙ drop-drop (length t) (at + length s) xs
    ∙ ap (λ (m : ℕ). drop m xs) (sum_is at (length s) (length t) ∙ ap (λ (m : ℕ). at + m) (sym (length-append s t))) in
    ap (λ (w : List ℕ). (w ++ t) ++ drop (j + length t) whole) first
    ∙ ap (λ (w : List ℕ). ((take at xs ++ s) ++ t) ++ w) rest
    ∙ ap (λ (w : List ℕ). w ++ drop (at + length (s ++ t)) xs) (append_assoc (take at xs) s t)

-- one write behind another, as two calls tell it
pub then_put : (old mid new : List ℕ) (at j : ℕ) (s t : List ℕ) → mid ≡ put old at s → new ≡ put mid j t → j ≡ at + length s → j + length t ≤ length old → new ≡ put old at (s ++ t)
then_put old mid new at j s t first second place room =
    second ∙ ap (λ (w : List ℕ). put w j t) first ∙ put-put old at j s t place room

-- a field of a front is that of the whole
pub field-front : (n k : ℕ) (a b : List ℕ) → k + n ≤ length a → field n k (a ++ b) ≡ field n k a
unfolding field
field-front n k a b h =
    ap (little_number n) (drop-append-le k a b (omega arith)) ∙ little_from-append n (drop k a) b (omega (arith, length-drop k a))

-- a field behind a front
pub field-rest : (n k j : ℕ) (a b : List ℕ) → j ≡ length a + k → field n j (a ++ b) ≡ field n k b
unfolding field
field-rest n k j a b h =
    ap (λ (m : ℕ). little_number n (drop m (a ++ b))) h
    ∙ ap (little_number n) (drop-append-add a b k)

-- the number that was written there
pub field-le : (n k x : ℕ) (a : List ℕ) → k ≡ length a → x < 256 ^ n → field n k (a ++ le n x) ≡ x
unfolding field le
field-le n k x a place fits =
    ap (little_number n) (drop_at a (little_bytes n x) k (sym place))
    ∙ ap (little_number n) (sym (append-nil (little_bytes n x)))
    ∙ little_number-reads_back n x [] fits

-- what was written is there
pub field-put : (n j k at : ℕ) (xs bytes : List ℕ) → j ≡ at + k → k + n ≤ length bytes → at ≤ length xs → field n j (put xs at bytes) ≡ field n k bytes
unfolding put
field-put n j k at xs bytes place inside room =
    field-front n j (take at xs ++ bytes) (drop (at + length bytes) xs) (simp (length-append, length-take) (omega arith))
    ∙ field-rest n k j (take at xs) bytes (omega (arith, length-take at xs))

-- a copy to a part of a slice
pub part_put : (at k : ℕ) (xs ys bytes : List ℕ) → k ≡ length bytes → ys ≡ bytes → put_mid at k xs ys ≡ put xs at bytes
unfolding put
part_put at k xs ys bytes len copied =
    ap (λ (w : List ℕ). take at xs ++ (w ++ drop k (drop at xs))) copied
    ∙ sym (append_assoc (take at xs) bytes (drop k (drop at xs)))
    ∙ ap (λ (w : List ℕ). (take at xs ++ bytes) ++ w) (drop-drop k at xs ∙ ap (λ (m : ℕ). drop (at + m) xs) len)

-- a write at the front of what is left of a slice
pub rest_put : (at k n : ℕ) (xs ys bytes : List ℕ) → n ≡ length bytes → k ≡ length xs - at → ys ≡ bytes ++ drop n (take k (drop at xs)) → put_mid at k xs ys ≡ put xs at bytes
unfolding put
rest_put at k n xs ys bytes len rest written =
    let whole : take k (drop at xs) ≡ drop at xs = ap (λ (m : ℕ). take m (drop at xs)) rest ∙ take_rest xs at in
    let nothing : drop k (drop at xs) ≡ [] = drop_all k (drop at xs) (omega (arith, length-drop at xs)) in
    ap (λ (w : List ℕ). take at xs ++ (w ++ drop k (drop at xs))) written
    ∙ ap (λ (w : List ℕ). take at xs ++ ((bytes ++ drop n (take k (drop at xs))) ++ w)) nothing
    ∙ ap (λ (w : List ℕ). take at xs ++ w) (append-nil (bytes ++ drop n (take k (drop at xs))))
    ∙ ap (λ (w : List ℕ). take at xs ++ (bytes ++ drop n w)) whole
    ∙ sym (append_assoc (take at xs) bytes (drop n (drop at xs)))
    ∙ ap (λ (w : List ℕ). (take at xs ++ bytes) ++ w) (drop-drop n at xs ∙ ap (λ (m : ℕ). drop (at + m) xs) len)

-- one byte
pub le-one : (x : ℕ) → x < 256 → x ∷ [] ≡ le 1 x
unfolding le
le-one x h = ap (λ (w : ℕ). w ∷ []) (sym (mod-eq_of_lt h))

-- the number that stands behind a front
pub field-in : (n k x : ℕ) (front rest xs : List ℕ) → xs ≡ (front ++ le n x) ++ rest → k ≡ length front → x < 256 ^ n → field n k xs ≡ x
field-in n k x front rest xs parts place fits =
    ap (field n k) parts
    ∙ field-front n k (front ++ le n x) rest (omega lengths)
    ∙ field-le n k x front place fits

pub put-nothing : (xs : List ℕ) (at : ℕ) → put xs at [] ≡ xs
unfolding put
put-nothing xs at =
    ap (λ (w : List ℕ). w ++ drop (at + 0) xs) (append-nil (take at xs))
    ∙ ap (λ (m : ℕ). take at xs ++ drop m xs) (at_is at)
    ∙ take-append-drop at xs
  where
    at_is : (n : ℕ) → n + 0 ≡ n
    at_is n = omega arith

pub padded-is : (m n k : ℕ) (xs : List ℕ) → length xs ≡ n → k ≡ m - n → xs ++ zeros k ≡ padded m xs
unfolding padded
padded-is m n k xs len rest =
    ap (λ (w : ℕ). xs ++ zeros w) rest ∙ ap (λ (w : ℕ). xs ++ zeros (m - w)) (sym len)

-- what stands up to the end of what was written
pub take-put : (xs : List ℕ) (at : ℕ) (bytes : List ℕ) (n : ℕ) → n ≡ at + length bytes → at ≤ length xs → take n (put xs at bytes) ≡ take at xs ++ bytes
unfolding put
take-put xs at bytes n is room =
    take_at (take at xs ++ bytes) (drop (at + length bytes) xs) n (length-append (take at xs) bytes ∙ omega (arith, length-take at xs))

-- what stands behind a place in what was written
pub drop-put : (xs : List ℕ) (at : ℕ) (bytes : List ℕ) (k n : ℕ) → n ≡ at + k → k ≤ length bytes → at ≤ length xs → drop n (put xs at bytes) ≡ drop k bytes ++ drop (at + length bytes) xs
unfolding put
drop-put xs at bytes k n is inside room =
    let front : length (take at xs) ≡ at = length-take at xs ∙ omega arith in
    let place : n ≡ length (take at xs) + k = omega arith in
    drop-append-le n (take at xs ++ bytes) (drop (at + length bytes) xs) (omega (lengths, length-take at xs))
    ∙ ap (λ (w : List ℕ). w ++ drop (at + length bytes) xs) (ap (λ (m : ℕ). drop m (take at xs ++ bytes)) place ∙ drop-append-add (take at xs) bytes k)

-- a field before what was written stays
pub field-before : (n j at : ℕ) (xs bytes : List ℕ) → j + n ≤ at → at ≤ length xs → field n j (put xs at bytes) ≡ field n j xs
unfolding put
field-before n j at xs bytes before room =
    let front : length (take at xs) ≡ at = length-take at xs ∙ omega arith in
    field-front n j (take at xs ++ bytes) (drop (at + length bytes) xs) (omega lengths)
    ∙ field-front n j (take at xs) bytes (omega arith)
    ∙ sym (field-front n j (take at xs) (drop at xs) (omega arith))
    ∙ ap (field n j) (take-append-drop at xs)
