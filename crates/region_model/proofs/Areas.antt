-- Blocks of a data area: those that are taken out, their sizes, and what is written over them.
use Rattle.std.proofs.Common.{◌≡◌, ℕ, zero, suc, ◌+◌, ◌-◌, ◌*◌, ◌<◌, ◌≤◌, true, false, List, [], ◌∷◌, ◌++◌, length, take, drop, slice_get, Option, None, Some, refl, sym, ap, ◌∙◌, arith, length-append, length-take, ⊎_elim}
use Rattle.std.proofs.Math.ListN.{set}
use Rattle.std.proofs.lemmas.Bool.{and_parts, cases_Bool, cases_lt}
use Rattle.tcmu_types.specs.ByteFields.{put}
use Rattle.tcmu_types.specs.Overwriting.{zeros}
use Rattle.tcmu_types.specs.declared.iovec.Iov.{Iov}
use Rattle.tcmu_types.proofs.ByteFields.{length-put, length-zeros, put-nothing}
use Rattle.region_model.specs.Areas.{block_bytes}
use Rattle.region_model.specs.Regions.{AreSized, RegionState, blocks_over, can_lend, can_take, home, is_home, named_by, overlaid, shown, taken}

pub length-taken : (area : List (Option (List ℕ))) (bs : List ℕ) → length (taken area bs) ≡ length bs
length-taken area [] = refl
length-taken area (b ∷ bs) = ap suc (length-taken (set area b None) bs)

pub sized-take : (size n : ℕ) (area : List (Option (List ℕ))) → AreSized size area → AreSized size (take n area)
sized-take size zero area h = tt
sized-take size (suc n) [] h = tt
sized-take size (suc n) (None ∷ area) h = sized-take size n area h
sized-take size (suc n) (Some block ∷ area) h = (h.0, sized-take size n area h.1)

-- ==== sizes

pub sized-set : (size : ℕ) (area : List (Option (List ℕ))) (n : ℕ) (o : Option (List ℕ)) → AreSized size (o ∷ []) → AreSized size area → AreSized size (set area n o)
sized-set size [] n o k h = tt
sized-set size (None ∷ area) zero None k h = h
sized-set size (None ∷ area) zero (Some new) k h = (k.0, h)
sized-set size (Some block ∷ area) zero None k h = h.1
sized-set size (Some block ∷ area) zero (Some new) k h = (k.0, h.1)
sized-set size (None ∷ area) (suc n) o k h = sized-set size area n o k h
sized-set size (Some block ∷ area) (suc n) o k h = (h.0, sized-set size area n o k h.1)

pub length-block : (size : ℕ) (area : List (Option (List ℕ))) (n : ℕ) → AreSized size area → length (block_bytes size (home (slice_get area n))) ≡ size
length-block size [] n h = length-zeros size
length-block size (None ∷ area) zero h = length-zeros size
length-block size (Some block ∷ area) zero h = h.0
length-block size (None ∷ area) (suc n) h = length-block size area n h
length-block size (Some block ∷ area) (suc n) h = length-block size area n h.1

pub size-home : (size : ℕ) (area : List (Option (List ℕ))) (n : ℕ) (block : List ℕ) → AreSized size area → home (slice_get area n) ≡ Some block → length block ≡ size
size-home size area n block h is = ap (λ (o : Option (List ℕ)). length (block_bytes size o)) (sym is) ∙ length-block size area n h

pub length-shown : (size : ℕ) (area : List (Option (List ℕ))) → AreSized size area → length (shown size area) ≡ size * length area
length-shown size [] h = omega arith
length-shown size (None ∷ area) h =
    let e : length (shown size (None ∷ area)) ≡ length (zeros size) + length (shown size area) = length-append (zeros size) (shown size area) in
    omega (arith, e, length-zeros size, length-shown size area h)
length-shown size (Some block ∷ area) h =
    let e : length (shown size (Some block ∷ area)) ≡ length block + length (shown size area) = length-append block (shown size area) in
    omega (arith, e, h.0, length-shown size area h.1)

-- ==== bytes written

-- over the front of others
pub put-front : (xs bytes : List ℕ) → put xs 0 bytes ≡ bytes ++ drop (length bytes) xs
unfolding put
put-front xs bytes = let k : 0 + length bytes ≡ length bytes = omega arith in ap (λ n. bytes ++ drop n xs) k

pub length-overlaid : (place at : ℕ) (bytes x : List ℕ) → length (overlaid place at bytes x) ≡ length x
unfolding overlaid
length-overlaid place at bytes x =
    let i : ℕ = at - place in
    let ys : List ℕ = take (length x - i) (drop (place - at) bytes) in
    ⊎_elim
    (λ (k : i < length x). length-put x i ys (omega (arith, length-take (length x - i) (drop (place - at) bytes), k)))
    (λ (k : length x ≤ i).
    let z : length x - i ≡ 0 = omega (arith, k) in
    ap (λ n. length (put x i (take n (drop (place - at) bytes)))) z ∙ ap length (put-nothing x i))
    (cases_lt i (length x))

pub sized-blocks_over : (size place wide at : ℕ) (bytes : List ℕ) (area : List (Option (List ℕ))) → AreSized size area → AreSized size (blocks_over place wide at bytes area)
sized-blocks_over size place wide at bytes [] h = tt
sized-blocks_over size place wide at bytes (None ∷ area) h = sized-blocks_over size (place + wide) wide at bytes area h
sized-blocks_over size place wide at bytes (Some block ∷ area) h = (length-overlaid place at bytes block ∙ h.0, sized-blocks_over size (place + wide) wide at bytes area h.1)

-- ==== how many blocks can be lent

home_count : List (Option (List ℕ)) → ℕ
home_count [] = 0
home_count (None ∷ area) = home_count area
home_count (Some b ∷ area) = suc (home_count area)

home_count-most : (area : List (Option (List ℕ))) → home_count area ≤ length area
unfolding home_count
home_count-most [] = omega arith
home_count-most (None ∷ area) = let rest = home_count-most area in omega arith
home_count-most (Some b ∷ area) = let rest = home_count-most area in omega arith

home_count-lent : (area : List (Option (List ℕ))) (n : ℕ) → is_home (slice_get area n) ≡ true → suc (home_count (set area n None)) ≡ home_count area
unfolding home_count
home_count-lent [] n h = cc
home_count-lent (None ∷ area) zero h = cc
home_count-lent (Some b ∷ area) zero h = refl
home_count-lent (None ∷ area) (suc n) h = home_count-lent area n h
home_count-lent (Some b ∷ area) (suc n) h = ap suc (home_count-lent area n h)

taken-few : (area : List (Option (List ℕ))) (ns : List ℕ) → can_take area ns ≡ true → length ns ≤ home_count area
taken-few area [] h = omega arith
taken-few area (n ∷ ns) h =
    let both = and_parts (is_home (slice_get area n)) (can_take (set area n None) ns) h in
    let rest = taken-few (set area n None) ns both.1 in
    let one = home_count-lent area n both.0 in
    omega arith

-- blocks that can be lent are no more than the area has
pub lent-few : (r : RegionState) (iovs : List Iov) → can_lend r iovs ≡ true → length (named_by r iovs) ≤ length r.blocks
lent-few r iovs h =
    let few = taken-few r.blocks (named_by r iovs) (and_parts _ (can_take r.blocks (named_by r iovs)) h).1 in
    let most = home_count-most r.blocks in
    omega arith

-- where more are named, none is lent
pub lent-none : (r : RegionState) (iovs : List Iov) → length r.blocks < length (named_by r iovs) → can_lend r iovs ≡ false
lent-none r iovs h =
    ⊎_elim
    (λ (t : can_lend r iovs ≡ true). let few = lent-few r iovs t in absurd (omega arith))
    (λ (f : can_lend r iovs ≡ false). f)
    (cases_Bool (can_lend r iovs))
