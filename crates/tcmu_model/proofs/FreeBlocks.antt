-- The least free numbers.
use Rattle.std.proofs.Common.{◌≡◌, ℕ, ◌+◌, ◌≤◌, ◌<◌, true, false, List, [], ◌∷◌, length, take, refl, ap, arith, suc, zero, length-take, ⊎_elim, eqb}
use Rattle.std.proofs.lemmas.Bool.{cases_Bool, eqb-true, ne_eqb, or_parts}
use Rattle.tcmu_types.specs.Numbers.{is_among, Differ}
use Rattle.tcmu_types.specs.Lists.{Every}
use Rattle.tcmu_types.proofs.Rises.{differ-take}
use Rattle.tcmu_model.specs.BlockLists.{free_from, least_free}
use Rattle.tcmu_types.proofs.Everies.{every-take}

-- a number that lies before takes nothing away
free-before : (h : ℕ) (hs : List ℕ) (n k : ℕ) → h < n → free_from (h ∷ hs) n k ≡ free_from hs n k
free-before h hs n zero l = refl
free-before h hs n (suc k) l =
    let e : eqb h n ≡ false = ne_eqb h n (λ q. absurd (omega arith)) in
    ⊎_elim
    (λ (a : is_among hs n ≡ true). rw (e, a) (free-before h hs (n + 1) k (omega arith)))
    (λ (a : is_among hs n ≡ false). rw (e, a) (ap (λ xs. n ∷ xs) (free-before h hs (n + 1) k (omega arith))))
    (cases_Bool (is_among hs n))

-- one more number takes at most one away
free-one : (h : ℕ) (hs : List ℕ) (n k : ℕ) → length (free_from hs n k) ≤ length (free_from (h ∷ hs) n k) + 1
free-one h hs n zero = omega arith
free-one h hs n (suc k) =
    ⊎_elim
    (λ (e : eqb h n ≡ true).
    let z : h ≡ n = eqb-true h n e in
    let b : length (free_from (h ∷ hs) (n + 1) k) ≡ length (free_from hs (n + 1) k) = ap length (free-before h hs (n + 1) k (omega arith)) in
    ⊎_elim
    (λ (a : is_among hs n ≡ true). rw (e, a) (omega (arith, b)))
    (λ (a : is_among hs n ≡ false). rw (e, a) (omega (arith, b)))
    (cases_Bool (is_among hs n)))
    (λ (e : eqb h n ≡ false).
    let ih = free-one h hs (n + 1) k in
    ⊎_elim
    (λ (a : is_among hs n ≡ true). rw (e, a) ih)
    (λ (a : is_among hs n ≡ false). rw (e, a) (omega (arith, ih)))
    (cases_Bool (is_among hs n)))
    (cases_Bool (eqb h n))

free-none : (n k : ℕ) → length (free_from [] n k) ≡ k
free-none n zero = refl
free-none n (suc k) = ap suc (free-none (n + 1) k)

pub free-enough : (held : List ℕ) (n k : ℕ) → k ≤ length (free_from held n k) + length held
free-enough [] n k = omega (arith, free-none n k)
free-enough (h ∷ hs) n k = omega (arith, free-one h hs n k, free-enough hs n k)

pub length-least_free : (limit : ℕ) (held : List ℕ) (n : ℕ) → length held + n ≤ limit → length (least_free limit held n) ≡ n
length-least_free limit held n h = omega (arith, free-enough held 0 limit, length-take n (free_from held 0 limit))

-- what a free number is
pub record IsFree (held : List ℕ) (low high b : ℕ) : Type 0 where
  pub low_ : low ≤ b
  pub high_ : b < high
  pub free : is_among held b ≡ false

every-more : (held : List ℕ) (n k : ℕ) (xs : List ℕ) → Every (IsFree held (n + 1) (n + 1 + k)) xs → Every (IsFree held n (n + suc k)) xs
every-more held n k [] e = tt
every-more held n k (x ∷ xs) e =
    let f = e.0 in let a : n + 1 ≤ x = f.low_ in let b : x < n + 1 + k = f.high_ in
    (record { low_ = omega arith; high_ = omega arith; free = f.free }, every-more held n k xs e.1)

free-are : (held : List ℕ) (n k : ℕ) → Every (IsFree held n (n + k)) (free_from held n k)
free-are held n zero = tt
free-are held n (suc k) =
    ⊎_elim
    (λ (a : is_among held n ≡ true). rw a (every-more held n k (free_from held (n + 1) k) (free-are held (n + 1) k)))
    (λ (a : is_among held n ≡ false). rw a (record { low_ = omega arith; high_ = omega arith; free = a }, every-more held n k (free_from held (n + 1) k) (free-are held (n + 1) k)))
    (cases_Bool (is_among held n))

pub least-are : (limit : ℕ) (held : List ℕ) (n : ℕ) → Every (IsFree held 0 (0 + limit)) (least_free limit held n)
least-are limit held n = every-take (IsFree held 0 (0 + limit)) n (free_from held 0 limit) (free-are held 0 limit)

above-none : (held : List ℕ) (m hi b : ℕ) (xs : List ℕ) → b < m → Every (IsFree held m hi) xs → is_among xs b ≡ false
above-none held m hi b [] l e = refl
above-none held m hi b (x ∷ xs) l e = let f = e.0 in let a : m ≤ x = f.low_ in let n : eqb x b ≡ false = ne_eqb x b (λ q. absurd (omega arith)) in rw n (above-none held m hi b xs l e.1)

free-differ : (held : List ℕ) (n k : ℕ) → Differ (free_from held n k)
free-differ held n zero = tt
free-differ held n (suc k) =
    ⊎_elim
    (λ (a : is_among held n ≡ true). rw a (free-differ held (n + 1) k))
    (λ (a : is_among held n ≡ false). rw a (above-none held (n + 1) (n + 1 + k) n (free_from held (n + 1) k) (omega arith) (free-are held (n + 1) k), free-differ held (n + 1) k))
    (cases_Bool (is_among held n))

pub least-differ : (limit : ℕ) (held : List ℕ) (n : ℕ) → Differ (least_free limit held n)
least-differ limit held n = differ-take n (free_from held 0 limit) (free-differ held 0 limit)
