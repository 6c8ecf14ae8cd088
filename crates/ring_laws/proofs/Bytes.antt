-- Bytes written over others.
use Rattle.std.proofs.Common.{◌≡◌, ℕ, ◌+◌, ◌-◌, ◌≤◌, List, ◌++◌, length, take, drop, refl, sym, ap, ◌∙◌, arith, append_assoc, length-append}
use Rattle.std.proofs.lemmas.List.{take_at, drop_at, drop-append-le, take-append-le, take-take, drop-drop, drop-take, length-take-le}
use Rattle.tcmu_types.specs.ByteFields.{put}
use Rattle.ring_laws.proofs.Layouts.{take-written_inside}

-- n bytes from a place on
abbrev pub part : List ℕ → ℕ → ℕ → List ℕ
part xs at n = take n (drop at xs)

-- what was written
pub part-written : (xs : List ℕ) (at : ℕ) (ys : List ℕ) → at + length ys ≤ length xs → part (put xs at ys) at (length ys) ≡ ys
unfolding put
part-written xs at ys h =
    let a : length (take at xs) ≡ at = length-take-le at xs (omega arith) in
    let e : drop at (take at xs ++ ys ++ drop (at + length ys) xs) ≡ ys ++ drop (at + length ys) xs =
    ap (drop at) (append_assoc (take at xs) ys (drop (at + length ys) xs)) ∙ drop_at (take at xs) (ys ++ drop (at + length ys) xs) at a in
    ap (take (length ys)) e ∙ take_at ys (drop (at + length ys) xs) (length ys) refl

-- what lies before it
pub take-written : (xs : List ℕ) (at : ℕ) (ys : List ℕ) (n : ℕ) → n ≤ at → at ≤ length xs → take n (put xs at ys) ≡ take n xs
unfolding put
take-written xs at ys n h l =
    let a : length (take at xs) ≡ at = length-take-le at xs l in
    let e : take at xs ++ ys ++ drop (at + length ys) xs ≡ take at xs ++ (ys ++ drop (at + length ys) xs) = append_assoc (take at xs) ys (drop (at + length ys) xs) in
    ap (take n) e ∙ take-append-le n (take at xs) (ys ++ drop (at + length ys) xs) (omega arith) ∙ take-take n at xs h

pub part_of_front : (xs ys : List ℕ) (m p n : ℕ) → p + n ≤ m → take m xs ≡ take m ys → part xs p n ≡ part ys p n
part_of_front xs ys m p n h e =
    let f : (zs : List ℕ) → take n (drop p (take m zs)) ≡ take n (drop p zs) = λ zs.
    let k : m ≡ p + (m - p) = omega arith in
    let a : drop p (take (p + (m - p)) zs) ≡ take (m - p) (drop p zs) = drop-take p (m - p) zs in
    let b : drop p (take m zs) ≡ take (m - p) (drop p zs) = ap (λ t. drop p (take t zs)) k ∙ a in
    ap (take n) b ∙ take-take n (m - p) (drop p zs) (omega arith) in
    sym (f xs) ∙ ap (λ zs. take n (drop p zs)) e ∙ f ys

pub part-written_before : (xs : List ℕ) (at : ℕ) (ys : List ℕ) (p n : ℕ) → p + n ≤ at → at ≤ length xs → part (put xs at ys) p n ≡ part xs p n
part-written_before xs at ys p n h l = part_of_front (put xs at ys) xs at p n h (take-written xs at ys at (omega arith) l)

-- what lies behind it
pub drop-written : (xs : List ℕ) (at : ℕ) (ys : List ℕ) (p : ℕ) → at + length ys ≤ p → at ≤ length xs → drop p (put xs at ys) ≡ drop p xs
unfolding put
drop-written xs at ys p h l =
    let a : length (take at xs) ≡ at = length-take-le at xs l in
    let e : length (take at xs ++ ys) ≡ at + length ys = length-append (take at xs) ys ∙ ap (λ t. t + length ys) a in
    let f : drop (at + length ys) (take at xs ++ ys ++ drop (at + length ys) xs) ≡ drop (at + length ys) xs = drop_at (take at xs ++ ys) (drop (at + length ys) xs) (at + length ys) e in
    let k : p ≡ (at + length ys) + (p - (at + length ys)) = omega arith in
    ap (λ t. drop t (put xs at ys)) k ∙ sym (drop-drop (p - (at + length ys)) (at + length ys) (put xs at ys)) ∙ ap (drop (p - (at + length ys))) f
    ∙ drop-drop (p - (at + length ys)) (at + length ys) xs ∙ ap (λ t. drop t xs) (sym k)

pub part-written_behind : (xs : List ℕ) (at : ℕ) (ys : List ℕ) (p n : ℕ) → at + length ys ≤ p → at ≤ length xs → part (put xs at ys) p n ≡ part xs p n
part-written_behind xs at ys p n h l = ap (take n) (drop-written xs at ys p h l)

-- behind a place
pub drop-written_inside : (xs : List ℕ) (p a : ℕ) (ys : List ℕ) → p + a ≤ length xs → drop p (put xs (p + a) ys) ≡ put (drop p xs) a ys
unfolding put
drop-written_inside xs p a ys h =
    let t : List ℕ = take (p + a) xs in
    let lt : length t ≡ p + a = length-take-le (p + a) xs h in
    let lty : length (t ++ ys) ≡ length t + length ys = length-append t ys in
    let e1 : drop p (t ++ ys ++ drop (p + a + length ys) xs) ≡ drop p (t ++ ys) ++ drop (p + a + length ys) xs = drop-append-le p (t ++ ys) (drop (p + a + length ys) xs) (omega arith) in
    let e2 : drop p (t ++ ys) ≡ drop p t ++ ys = drop-append-le p t ys (omega arith) in
    let e3 : drop p t ≡ take a (drop p xs) = drop-take p a xs in
    let k : p + a + length ys ≡ p + (a + length ys) = omega arith in
    let e4 : drop (p + a + length ys) xs ≡ drop (a + length ys) (drop p xs) = ap (λ z. drop z xs) k ∙ sym (drop-drop (a + length ys) p xs) in
    e1 ∙ ap (λ z. z ++ drop (p + a + length ys) xs) (e2 ∙ ap (λ z. z ++ ys) e3) ∙ ap (λ z. take a (drop p xs) ++ ys ++ z) e4

-- ==== two writes

-- what is written twice is as it was written last
pub put-again : (xs : List ℕ) (at : ℕ) (a b : List ℕ) → length a ≡ length b → at ≤ length xs → put (put xs at a) at b ≡ put xs at b
unfolding put
put-again xs at a b same room =
    let front : take at (put xs at a) ≡ take at xs = take-written xs at a at (omega arith) room in
    let back : drop (at + length b) (put xs at a) ≡ drop (at + length b) xs = drop-written xs at a (at + length b) (omega arith) room in
    ap (λ (w : List ℕ). w ++ b ++ drop (at + length b) (put xs at a)) front ∙ ap (λ (w : List ℕ). take at xs ++ b ++ w) back

-- two writes that do not meet, in either order
pub put-apart : (xs : List ℕ) (p q : ℕ) (a b : List ℕ) → p + length a ≤ q → q ≤ length xs → put (put xs q b) p a ≡ put (put xs p a) q b
unfolding put
put-apart xs p q a b apart room =
    let s : ℕ = p + length a in
    let k : q ≡ s + (q - s) = omega arith in
    let front : take p (put xs q b) ≡ take p xs = take-written xs q b p (omega arith) room in
    let mid : drop s (put xs q b) ≡ put (drop s xs) (q - s) b = ap (λ n. drop s (put xs n b)) k ∙ drop-written_inside xs s (q - s) b (omega arith) in
    let inner : take (q - s) (drop s xs) ≡ drop s (take q xs) = sym (ap (λ n. drop s (take n xs)) k ∙ drop-take s (q - s) xs) in
    let sum : s + (q - s + length b) ≡ q + length b = omega arith in
    let rest : drop (q - s + length b) (drop s xs) ≡ drop (q + length b) xs = drop-drop (q - s + length b) s xs ∙ ap (λ n. drop n xs) sum in
    let least : take p (take q xs) ≡ take p xs = take-take p q xs (omega arith) in
    let first : take q (put xs p a) ≡ put (take q xs) p a = take-written_inside xs p a q apart room in
    let last : drop (q + length b) (put xs p a) ≡ drop (q + length b) xs = drop-written xs p a (q + length b) (omega arith) (omega arith) in
    ap (λ (w : List ℕ). w ++ a ++ drop s (put xs q b)) front
    ∙ ap (λ (w : List ℕ). take p xs ++ a ++ w) mid
    ∙ ap (λ (w : List ℕ). take p xs ++ a ++ (w ++ b ++ drop (q - s + length b) (drop s xs))) inner
    ∙ ap (λ (w : List ℕ). take p xs ++ a ++ (drop s (take q xs) ++ b ++ w)) rest
    ∙ regroup (take p xs) a (drop s (take q xs)) b (drop (q + length b) xs)
    ∙ ap (λ (w : List ℕ). (w ++ a ++ drop s (take q xs)) ++ b ++ drop (q + length b) xs) (sym least)
    ∙ sym (ap (λ (w : List ℕ). w ++ b ++ drop (q + length b) (put xs p a)) first ∙ ap (λ (w : List ℕ). put (take q xs) p a ++ b ++ w) last)
  where
    regroup : (u v w x y : List ℕ) → (u ++ v) ++ ((w ++ x) ++ y) ≡ (((u ++ v) ++ w) ++ x) ++ y
    regroup u v w x y = simp append_assoc
