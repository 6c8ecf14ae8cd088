-- Numbers that rise, by each of them and the next.
use Rattle.std.proofs.Common.{◌≡◌, ◌+◌, ◌<◌, ◌&&◌, ℕ, zero, suc, Bool, true, false, nat_lt, List, [], ◌∷◌, length, sym, refl, arith, subst}
use Rattle.std.specs.Prelude.{slice_index_or}
use Rattle.std.specs.List.{IsAllAdjacentAnswer, AllAdjacentBelow}
use Rattle.tcmu_types.specs.Decimals.{is_rising}

all_rise : (ns : List ℕ) → AllAdjacentBelow (λ x y. true ≡ nat_lt x y) ns (length ns) → is_rising ns ≡ true
all_rise [] h = refl
all_rise (n ∷ []) h = refl
all_rise (n ∷ m ∷ ns) h =
    let first : nat_lt n m ≡ true = sym (h 0 0 (omega arith)) in
    rw first (all_rise (m ∷ ns) (λ k d i. subst (λ j. true ≡ nat_lt (slice_index_or (m ∷ ns) k d) (slice_index_or (n ∷ m ∷ ns) j d)) (above k) (h (suc k) d (omega (arith, i)))))
  where
    above : (k : ℕ) → suc k + 1 ≡ suc (k + 1)
    above k = omega arith

one_falls : (ns : List ℕ) (k : ℕ) → k + 1 < length ns → false ≡ nat_lt (slice_index_or ns k 0) (slice_index_or ns (k + 1) 0) → is_rising ns ≡ false
one_falls [] k h e = absurd (omega (arith, h))
one_falls (n ∷ []) k h e = absurd (omega (arith, h))
one_falls (n ∷ m ∷ ns) zero h e = let first : nat_lt n m ≡ false = sym e in rw first refl
one_falls (n ∷ m ∷ ns) (suc k) h e =
    let rest : is_rising (m ∷ ns) ≡ false = one_falls (m ∷ ns) k (omega (arith, h)) (subst (λ j. false ≡ nat_lt (slice_index_or (m ∷ ns) k 0) (slice_index_or (n ∷ m ∷ ns) j 0)) (above k) e) in
    both (nat_lt n m) (is_rising (m ∷ ns)) rest
  where
    above : (k : ℕ) → suc k + 1 ≡ suc (k + 1)
    above k = omega arith

    both : (b c : Bool) → c ≡ false → (b && c) ≡ false
    both true c e = e
    both false c e = refl

pub rises : (ns : List ℕ) (r : Bool) → IsAllAdjacentAnswer (λ x y b. b ≡ nat_lt x y) ns r → r ≡ is_rising ns
rises ns true h = sym (all_rise ns h)
rises ns false h = sym (one_falls ns h.0 h.1 (h.2 0))
