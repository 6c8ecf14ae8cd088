-- Bytes that were overwritten, by their places.
use Rattle.std.proofs.Common.{◌∙◌, ◌≡◌, ◌⊎◌, ℕ, ◌+◌, ◌-◌, ◌<◌, ◌≤◌, Bool, ◌&&◌, true, false, nat_lt, nat_le, List, ◌++◌, take, drop, sym, ap, length, arith, slice_get, if◌then◌else◌, ⊎_elim}
use Rattle.std.proofs.lemmas.List.{length-take, length-drop, length-append, take-append-drop}
use Rattle.std.proofs.lemmas.Bool.{cases_lt}
use Rattle.std.proofs.Math.Seq.{take-add}
use Rattle.tcmu_types.specs.Overwriting.{overwritten}
use Rattle.tcmu_types.proofs.Places.{same_list, get_append_left, get_append_right, get_take, get_drop, range_cases}

abbrev pub within : ℕ → ℕ → ℕ → Bool
within start end i = nat_le start i && nat_lt i end

-- a place of bytes of which some are replaced
abbrev pub put : {X : Type 0} → ℕ → ℕ → (ℕ → X) → (ℕ → X) → ℕ → X
put at n piece bytes i = if within at (at + n) i then piece (i - at) else bytes i

pub inside : (start end i : ℕ) → start ≤ i → i < end → within start end i ≡ true
inside start end i h k = grind arith

pub before : (start end i : ℕ) → i < start → within start end i ≡ false
before start end i h = grind arith

pub behind : (start end i : ℕ) → end ≤ i → within start end i ≡ false
behind start end i h = grind arith

length_front : (at : ℕ) (piece xs : List ℕ) → at + length piece ≤ length xs → length (take at xs ++ piece) ≡ at + length piece
length_front at piece xs h = grind (arith, length-take, length-append)

length_taken : (at : ℕ) (xs : List ℕ) → at ≤ length xs → length (take at xs) ≡ at
length_taken at xs h = grind (arith, length-take)

-- bytes that were overwritten, by their places
pub get_overwritten : (at : ℕ) (piece xs : List ℕ) → at + length piece ≤ length xs → (i : ℕ)
    → slice_get (overwritten at piece xs) i ≡ put at (length piece) (slice_get piece) (slice_get xs) i
get_overwritten at piece xs h i =
    let n = length piece in
    let front = length_front at piece xs h in
    let taken = length_taken at xs (omega (arith, h)) in
    ⊎_elim
    (λ (k : i < at).
    get_append_left (take at xs ++ piece) (drop (at + n) xs) i (rw front (omega (arith, k)))
    ∙ get_append_left (take at xs) piece i (rw taken k)
    ∙ get_take at xs i k
    ∙ sym (ap (λ b. if b then slice_get piece (i - at) else slice_get xs i) (before at (at + n) i k)))
    (λ (rest : ((at ≤ i) × (i < at + n)) ⊎ (at + n ≤ i)). ⊎_elim
    (λ (k : (at ≤ i) × (i < at + n)).
    get_append_left (take at xs ++ piece) (drop (at + n) xs) i (rw front (k.1))
    ∙ get_append_right (take at xs) piece i (i - at) (rw taken (omega (arith, k.0)))
    ∙ sym (ap (λ b. if b then slice_get piece (i - at) else slice_get xs i) (inside at (at + n) i k.0 k.1)))
    (λ (k : at + n ≤ i).
    get_append_right (take at xs ++ piece) (drop (at + n) xs) i (i - (at + n)) (rw front (omega (arith, k)))
    ∙ get_drop (at + n) xs (i - (at + n))
    ∙ ap (slice_get xs) (omega (arith, k))
    ∙ sym (ap (λ b. if b then slice_get piece (i - at) else slice_get xs i) (behind at (at + n) i k)))
    rest)
    (range_cases at n i)

pub put_in : {X : Type 0} (at n : ℕ) (piece bytes : ℕ → X) (i : ℕ) → at ≤ i → i < at + n → put at n piece bytes i ≡ piece (i - at)
put_in at n piece bytes i h k = ap (λ b. if b then piece (i - at) else bytes i) (inside at (at + n) i h k)

pub put_before : {X : Type 0} (at n : ℕ) (piece bytes : ℕ → X) (i : ℕ) → i < at → put at n piece bytes i ≡ bytes i
put_before at n piece bytes i h = ap (λ b. if b then piece (i - at) else bytes i) (before at (at + n) i h)

pub put_behind : {X : Type 0} (at n : ℕ) (piece bytes : ℕ → X) (i : ℕ) → at + n ≤ i → put at n piece bytes i ≡ bytes i
put_behind at n piece bytes i h = ap (λ b. if b then piece (i - at) else bytes i) (behind at (at + n) i h)

pub length_overwritten : (at : ℕ) (piece xs : List ℕ) → at + length piece ≤ length xs → length (overwritten at piece xs) ≡ length xs
length_overwritten at piece xs h = grind (arith, length-take, length-drop, length-append)

-- what is put behind a piece
pub overwritten_more : (at : ℕ) (p q xs : List ℕ) → at + length p + length q ≤ length xs
    → overwritten (at + length p) q (overwritten at p xs) ≡ overwritten at (p ++ q) xs
overwritten_more at p q xs h =
    let both : length (p ++ q) ≡ length p + length q = length-append p q in
    same_list _ _ (λ i.
    let outer = get_overwritten (at + length p) q (overwritten at p xs) (rw (length_overwritten at p xs (omega (arith, h))) h) i in
    let inner = get_overwritten at p xs (omega (arith, h)) i in
    let whole = get_overwritten at (p ++ q) xs (rw both (omega (arith, h))) i in
    ⊎_elim
    (λ (b : i < at).
    outer ∙ put_before (at + length p) (length q) (slice_get q) (slice_get (overwritten at p xs)) i (omega (arith, b))
    ∙ inner ∙ put_before at (length p) (slice_get p) (slice_get xs) i b
    ∙ sym (whole ∙ put_before at (length (p ++ q)) (slice_get (p ++ q)) (slice_get xs) i b))
    (λ (b : at ≤ i). ⊎_elim
    (λ (c : i < at + length p).
    outer ∙ put_before (at + length p) (length q) (slice_get q) (slice_get (overwritten at p xs)) i c
    ∙ inner ∙ put_in at (length p) (slice_get p) (slice_get xs) i b c
    ∙ sym (whole ∙ put_in at (length (p ++ q)) (slice_get (p ++ q)) (slice_get xs) i b (rw both (omega (arith, c))) ∙ get_append_left p q (i - at) (omega (arith, b, c))))
    (λ (c : at + length p ≤ i). ⊎_elim
    (λ (d : i < at + length p + length q).
    outer ∙ put_in (at + length p) (length q) (slice_get q) (slice_get (overwritten at p xs)) i c d
    ∙ sym (whole ∙ put_in at (length (p ++ q)) (slice_get (p ++ q)) (slice_get xs) i b (rw both (omega (arith, d))) ∙ get_append_right p q (i - at) (i - (at + length p)) (omega (arith, c))))
    (λ (d : at + length p + length q ≤ i).
    outer ∙ put_behind (at + length p) (length q) (slice_get q) (slice_get (overwritten at p xs)) i d
    ∙ inner ∙ put_behind at (length p) (slice_get p) (slice_get xs) i c
    ∙ sym (whole ∙ put_behind at (length (p ++ q)) (slice_get (p ++ q)) (slice_get xs) i (rw both (omega (arith, d)))))
    (cases_lt i (at + length p + length q)))
    (cases_lt i (at + length p)))
    (cases_lt i at))

pub length_piece : (at n : ℕ) (xs : List ℕ) → at + n ≤ length xs → length (take n (drop at xs)) ≡ n
length_piece at n xs h = grind (arith, length-take, length-drop)

-- bytes that are put where they stood change nothing
pub overwritten_same : (at n : ℕ) (xs : List ℕ) → at + n ≤ length xs → overwritten at (take n (drop at xs)) xs ≡ xs
overwritten_same at n xs h =
    rw (length_piece at n xs h) (ap (λ (ys : List ℕ). ys ++ drop (at + n) xs) (sym (take-add at n xs)) ∙ take-append-drop (at + n) xs)
