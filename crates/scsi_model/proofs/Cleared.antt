-- Bytes with zeros in some of their logical blocks.
use Rattle.std.proofs.Common.{◌∙◌, ◌≡◌, ℕ, zero, suc, ◌+◌, ◌-◌, ◌/◌, ◌%◌, ◌<◌, ◌≤◌, ◌==◌, Bool, true, false, ◌&&◌, ◌||◌, nat_lt, nat_le, List, [], ◌∷◌, length, sym, ap, refl, arith, Option, Some, None, slice_get, if◌then◌else◌, ⊎_elim, replicate}
use Rattle.std.specs.List.{range_with_len}
use Rattle.std.proofs.lemmas.Bool.{cases_Bool}
use Rattle.std.proofs.lemmas.List.{length-replicate}
use Rattle.tcmu_types.specs.Overwriting.{overwritten}
use Rattle.tcmu_types.specs.Numbers.{is_among}
use Rattle.tcmu_types.proofs.Places.{same_list, get_within}
use Rattle.tcmu_types.proofs.Overwriting.{within, get_overwritten}
use Rattle.tcmu_types.proofs.Rises.{among-append, among-filter}
use Rattle.scsi_model.specs.Base.{without_blocks, with_blocks, zeroed_from, zeroed}

-- ==== blocks by their numbers

among_from : (first n b : ℕ) → is_among (range_with_len first n) b ≡ within first (first + n) b
among_from first zero b = grind arith
among_from first (suc n) b =
    ⊎_elim
    (λ (e : (first == b) ≡ true). rw e (grind (arith, e)))
    (λ (e : (first == b) ≡ false). rw e (among_from (first + 1) n b ∙ grind (arith, e)))
    (cases_Bool (first == b))

-- where a block stands among those that are left, and among those with others
pub among_without : (first n b : ℕ) (blocks : List ℕ) → is_among (without_blocks first n blocks) b ≡ ((nat_lt b first || nat_le (first + n) b) && is_among blocks b)
among_without first n b blocks = among-filter (λ k. nat_lt k first || nat_le (first + n) k) blocks b

pub among_with : (first n b : ℕ) (blocks : List ℕ) → is_among (with_blocks first n blocks) b ≡ (within first (first + n) b || is_among blocks b)
among_with first n b blocks =
    among-append (range_with_len first n) (without_blocks first n blocks) b
    ∙ ap (λ t. t || is_among (without_blocks first n blocks) b) (among_from first n b)
    ∙ ap (λ t. within first (first + n) b || t) (among_without first n b blocks)
    ∙ ⊎_elim
    (λ (e : within first (first + n) b ≡ true). rw e refl)
    (λ (e : within first (first + n) b ≡ false). let out : (nat_lt b first || nat_le (first + n) b) ≡ true = grind (arith, e) in rw (e, out) refl)
    (cases_Bool (within first (first + n) b))

-- the blocks of whole ranges
pub block_inside : (at n i : ℕ) → at % 512 ≡ 0 → n % 512 ≡ 0 → within at (at + n) i ≡ true → within (at / 512) (at / 512 + n / 512) (i / 512) ≡ true
block_inside at n i a b h =
    let low : at ≤ i = grind (arith, h) in
    let high : i < at + n = grind (arith, h) in
    let down : at / 512 ≤ i / 512 = omega (arith, low, a) in
    let up : i / 512 < at / 512 + n / 512 = omega (arith, high, a, b) in
    grind (arith, down, up)

pub block_outside : (at n i : ℕ) → at % 512 ≡ 0 → n % 512 ≡ 0 → within at (at + n) i ≡ false → within (at / 512) (at / 512 + n / 512) (i / 512) ≡ false
block_outside at n i a b h =
    ⊎_elim
    (λ (e : within (at / 512) (at / 512 + n / 512) (i / 512) ≡ true).
    let low : at / 512 ≤ i / 512 = grind (arith, e) in
    let high : i / 512 < at / 512 + n / 512 = grind (arith, e) in
    let down : at ≤ i = omega (arith, low, a) in
    let up : i < at + n = omega (arith, high, a, b) in
    absurd (let t : within at (at + n) i ≡ true = grind (arith, down, up) in let f : true ≡ false = sym t ∙ h in cc))
    (λ (e : within (at / 512) (at / 512 + n / 512) (i / 512) ≡ false). e)
    (cases_Bool (within (at / 512) (at / 512 + n / 512) (i / 512)))

-- ==== bytes by their places

-- a byte that is shown as zero, and one that is shown as zero or as it is
abbrev as_zero : Option ℕ → Option ℕ
as_zero None = None
as_zero (Some x) = Some 0

abbrev pub hidden : Bool → Option ℕ → Option ℕ
hidden b o = if b then as_zero o else o

get_cleared_from : (at : ℕ) (blocks xs : List ℕ) (i : ℕ) → slice_get (zeroed_from at blocks xs) i ≡ hidden (is_among blocks ((at + i) / 512)) (slice_get xs i)
get_cleared_from at blocks [] i = go (is_among blocks ((at + i) / 512))
  where
    go : (b : Bool) → ◌≡◌ {A = Option ℕ} None (hidden b None)
    go true = refl
    go false = refl
get_cleared_from at blocks (x ∷ xs) zero =
    let e : at + 0 ≡ at = omega arith in rw e (go (is_among blocks (at / 512)))
  where
    go : (b : Bool) → Some (if b then 0 else x) ≡ hidden b (Some x)
    go true = refl
    go false = refl
get_cleared_from at blocks (x ∷ xs) (suc i) =
    let e : at + suc i ≡ at + 1 + i = omega arith in rw e (get_cleared_from (at + 1) blocks xs i)

pub get_cleared : (blocks xs : List ℕ) (i : ℕ) → slice_get (zeroed blocks xs) i ≡ hidden (is_among blocks (i / 512)) (slice_get xs i)
get_cleared blocks xs i = get_cleared_from 0 blocks xs i ∙ (let e : 0 + i ≡ i = omega arith in rw e refl)

length_cleared_from : (at : ℕ) (blocks xs : List ℕ) → length (zeroed_from at blocks xs) ≡ length xs
length_cleared_from at blocks [] = refl
length_cleared_from at blocks (x ∷ xs) = ap suc (length_cleared_from (at + 1) blocks xs)

pub length_cleared : (blocks xs : List ℕ) → length (zeroed blocks xs) ≡ length xs
length_cleared blocks xs = length_cleared_from 0 blocks xs

-- nothing is zeroed where no block is
pub cleared_none : (xs : List ℕ) → zeroed [] xs ≡ xs
cleared_none xs = same_list _ _ (λ i. get_cleared [] xs i)

-- ==== what is put, and what is spoiled

pub cleared_put : (at : ℕ) (piece blocks xs : List ℕ) → at % 512 ≡ 0 → length piece % 512 ≡ 0 → at + length piece ≤ length xs
    → zeroed (without_blocks (at / 512) (length piece / 512) blocks) (overwritten at piece xs) ≡ overwritten at piece (zeroed blocks xs)
cleared_put at piece blocks xs a b h =
    let n = length piece in
    let f = at / 512 in
    let m = n / 512 in
    let k : at + n ≤ length (zeroed blocks xs) = rw (length_cleared blocks xs) h in
    same_list _ _ (λ i.
    get_cleared (without_blocks f m blocks) (overwritten at piece xs) i
    ∙ ap (hidden (is_among (without_blocks f m blocks) (i / 512))) (get_overwritten at piece xs h i)
    ∙ ap (λ t. hidden t (if within at (at + n) i then slice_get piece (i - at) else slice_get xs i)) (among_without f m (i / 512) blocks)
    ∙ ⊎_elim
    (λ (e : within at (at + n) i ≡ true).
    let in_block = block_inside at n i a b e in
    let none : (nat_lt (i / 512) f || nat_le (f + m) (i / 512)) ≡ false = grind (arith, in_block) in
    rw (e, none) refl)
    (λ (e : within at (at + n) i ≡ false).
    let out_block = block_outside at n i a b e in
    let all : (nat_lt (i / 512) f || nat_le (f + m) (i / 512)) ≡ true = grind (arith, out_block) in
    rw (e, all) (sym (get_cleared blocks xs i)))
    (cases_Bool (within at (at + n) i))
    ∙ sym (get_overwritten at piece (zeroed blocks xs) k i))

get_zero : (n i : ℕ) → i < n → slice_get (replicate {A = ℕ} n 0) i ≡ Some 0
get_zero zero i h = absurd (omega arith)
get_zero (suc n) zero h = refl
get_zero (suc n) (suc i) h = get_zero n i (omega arith)

pub cleared_spoiled : (at n : ℕ) (junk blocks xs : List ℕ) → at % 512 ≡ 0 → n % 512 ≡ 0 → length junk ≡ n → at + n ≤ length xs
    → zeroed (with_blocks (at / 512) (n / 512) blocks) (overwritten at junk xs) ≡ overwritten at (replicate {A = ℕ} n 0) (zeroed blocks xs)
cleared_spoiled at n junk blocks xs a b l h =
    let f = at / 512 in
    let m = n / 512 in
    let all = with_blocks f m blocks in
    let z = length-replicate {A = ℕ} n 0 in
    let k : at + length junk ≤ length xs = rw l h in
    let k' : at + length (replicate {A = ℕ} n 0) ≤ length (zeroed blocks xs) = rw z (rw (length_cleared blocks xs) h) in
    same_list _ _ (λ i.
    get_cleared all (overwritten at junk xs) i
    ∙ ap (hidden (is_among all (i / 512))) (get_overwritten at junk xs k i)
    ∙ ap (λ t. hidden (is_among all (i / 512)) (if within at (at + t) i then slice_get junk (i - at) else slice_get xs i)) l
    ∙ ap (λ t. hidden t (if within at (at + n) i then slice_get junk (i - at) else slice_get xs i)) (among_with f m (i / 512) blocks)
    ∙ ⊎_elim
    (λ (e : within at (at + n) i ≡ true).
    let here : i - at < n = grind (arith, e) in
    let some = get_within junk (i - at) (rw l here) in
    rw (e, block_inside at n i a b e, some.1) (sym (get_zero n (i - at) here)))
    (λ (e : within at (at + n) i ≡ false). rw (e, block_outside at n i a b e) (sym (get_cleared blocks xs i)))
    (cases_Bool (within at (at + n) i))
    ∙ ap (λ t. if within at (at + t) i then slice_get (replicate {A = ℕ} n 0) (i - at) else slice_get (zeroed blocks xs) i) (sym z)
    ∙ sym (get_overwritten at (replicate {A = ℕ} n 0) (zeroed blocks xs) k' i))
