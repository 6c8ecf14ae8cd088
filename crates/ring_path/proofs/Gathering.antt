-- The first bytes along blocks, one block after another.
use Rattle.std.proofs.Common.{◌≡◌, ℕ, zero, suc, ◌+◌, ◌-◌, min, List, [], ◌∷◌, ◌++◌, length, take, refl, sym, ap, ◌∙◌, arith, append_assoc, length-append}
use Rattle.std.proofs.lemmas.List.{length-take, take_min}

take_both : (n : ℕ) (p g : List ℕ) → take n (p ++ g) ≡ take n p ++ take (n - length p) g
take_both zero [] g = refl
take_both (suc n) [] g = ap (λ m. take m g) (let e : suc n ≡ suc n - 0 = omega arith in e)
take_both zero (x ∷ p) g = ap (λ m. take m g) (let e : 0 ≡ 0 - length (x ∷ p) = omega arith in e)
take_both (suc n) (x ∷ p) g = ap (λ ys. x ∷ ys) (take_both n p g ∙ ap (λ m. take n p ++ take m g) (let e : n - length p ≡ suc n - length (x ∷ p) = omega arith in e))

-- one block more
pub bytes_more : (count more : ℕ) (bytes p g all : List ℕ) → more ≡ min (length p) (count - length bytes) → bytes ++ take (count - length bytes) (p ++ g) ≡ all → (bytes ++ take more p) ++ take (count - length (bytes ++ take more p)) g ≡ all
bytes_more count more bytes p g all m h =
    let n : ℕ = count - length bytes in
    let same : more ≡ min n (length p) = omega (arith, m) in
    let front : take more p ≡ take n p = ap (λ k. take k p) same ∙ take_min n p in
    let sum : length (bytes ++ take more p) ≡ length bytes + length (take more p) = length-append bytes (take more p) in
    let part : length (take more p) ≡ min more (length p) = length-take more p in
    let left : count - length (bytes ++ take more p) ≡ n - length p = omega (arith, sum, part, m) in
    ap (λ k. (bytes ++ take more p) ++ take k g) left
    ∙ ap (λ ys. (bytes ++ ys) ++ take (n - length p) g) front
    ∙ (let e : (bytes ++ take n p) ++ take (n - length p) g ≡ bytes ++ (take n p ++ take (n - length p) g) = rw append_assoc refl in e)
    ∙ ap (λ ys. bytes ++ ys) (sym (take_both n p g))
    ∙ h
