-- The bytes of the data area.
use Rattle.std.proofs.Common.{◌≡◌, ℕ, zero, suc, ◌+◌, ◌-◌, ◌*◌, ◌/◌, ◌%◌, ◌^◌, ◌<◌, ◌≤◌, ◌⊎◌, ⊎_elim, inl, inr, List, [], ◌∷◌, ◌++◌, length, drop, take, get_or, min, Option, Some, None, refl, ap, ◌∙◌, sym, subst, arith, append_assoc, length-append}
use Rattle.std.specs.Prelude.{slice_get, option_map, IfSome}
use Rattle.std.specs.Borrow.{Bor}
use Rattle.std.proofs.Math.Seq.{take-add, drop-append-add}
use Rattle.std.proofs.Math.Nat.{mul-suc, mul_comm, mul-le-mul, div-lt_iff_lt-mul, div-add-mod, div-le_self, mul-div-le, mul-le-mul_right, mod-lt}
use Rattle.std.proofs.lemmas.Grind.{div_ceil_times}
use Rattle.std.proofs.lemmas.Bool.{cases_lt}
use Rattle.std.proofs.lemmas.List.{drop-drop, drop_all, drop-append-le, take-append-le, length-drop, length-take, drop-replicate, take-replicate, take-append-drop, take_all, append-nil}
use Rattle.tcmu_types.specs.declared.iovec.Iov.{Iov}
use Rattle.tcmu_types.specs.ByteFields.{put}
use Rattle.tcmu_types.specs.Overwriting.{zeros}
use Rattle.region_model.specs.Iovecs.{EndBelow, along, total_of}
use Rattle.region_model.specs.Areas.{block_bytes}
use Rattle.region_model.specs.Regions.{RegionState, IsRegion, AreSized, size_of, home, shown, bytes_of, overlaid, blocks_over, wrote, LieInRegion}
use Rattle.tcmu_types.proofs.ByteFields.{length-zeros, put-put, length-put, take-put}
use Rattle.iovec_scatter.proofs.Steps.{rest_of, first_part}
use Rattle.shm_region.proofs.Over.{over_past, over_before}
use Rattle.region_model.proofs.Areas.{length-block, length-overlaid, length-shown, size-home}

on : {X : Type 0} (k : ℕ) (x : X) (xs : List X) → drop (k + 1) xs ≡ drop (suc k + 1) (x ∷ xs)
on k x xs = ap (λ (n : ℕ). drop n (x ∷ xs)) (next k)
  where
    next : (k : ℕ) → suc (k + 1) ≡ suc k + 1
    next k = omega arith

-- from byte s of block k on
pub drop-shown : (size k s : ℕ) (xs : List (Option (List ℕ))) → AreSized size xs → k < length xs → s ≤ size
    → drop (size * k + s) (shown size xs) ≡ drop s (block_bytes size (home (slice_get xs k))) ++ shown size (drop (k + 1) xs)
drop-shown size k s [] h inside most = absurd (omega (arith, inside))
drop-shown size zero s (None ∷ xs) h inside most =
    ap (λ (n : ℕ). drop n (zeros size ++ shown size xs)) (none size s) ∙ drop-append-le s (zeros size) (shown size xs) (omega (arith, most, length-zeros size))
  where
    none : (a s : ℕ) → a * 0 + s ≡ s
    none a s = omega arith
drop-shown size zero s (Some b ∷ xs) h inside most =
    ap (λ (n : ℕ). drop n (b ++ shown size xs)) (none size s) ∙ drop-append-le s b (shown size xs) (omega (arith, most, h.0))
  where
    none : (a s : ℕ) → a * 0 + s ≡ s
    none a s = omega arith
drop-shown size (suc k) s (None ∷ xs) h inside most =
    ap (λ (n : ℕ). drop n (zeros size ++ shown size xs)) (next size k s (length (zeros size)) (length-zeros size))
    ∙ drop-append-add (zeros size) (shown size xs) (size * k + s)
    ∙ drop-shown size k s xs h (omega (arith, inside)) most
    ∙ ap (λ (w : List (Option (List ℕ))). drop s (block_bytes size (home (slice_get xs k))) ++ shown size w) (on k None xs)
  where
    next : (a k s n : ℕ) → n ≡ a → a * suc k + s ≡ n + (a * k + s)
    next a k s n e = omega (arith, e, mul-suc a k)
drop-shown size (suc k) s (Some b ∷ xs) h inside most =
    ap (λ (n : ℕ). drop n (b ++ shown size xs)) (next size k s (length b) h.0)
    ∙ drop-append-add b (shown size xs) (size * k + s)
    ∙ drop-shown size k s xs h.1 (omega (arith, inside)) most
    ∙ ap (λ (w : List (Option (List ℕ))). drop s (block_bytes size (home (slice_get xs k))) ++ shown size w) (on k (Some b) xs)
  where
    next : (a k s n : ℕ) → n ≡ a → a * suc k + s ≡ n + (a * k + s)
    next a k s n e = omega (arith, e, mul-suc a k)

-- ==== reading

pub front_chunk : (front area : List ℕ) (at count : ℕ) → at ≤ length front → count ≤ length front - at → take count (drop at (front ++ area)) ≡ take count (drop at front)
front_chunk front area at count inside most =
    ap (take count) (drop-append-le at front area inside) ∙ take-append-le count (drop at front) area (omega (arith, most, length-drop at front))

pub area_chunk : (front : List ℕ) (size at k s count : ℕ) (xs : List (Option (List ℕ))) (b : List ℕ) → AreSized size xs → k < length xs → s ≤ size → count ≤ size - s
    → at ≡ length front + (size * k + s) → b ≡ block_bytes size (home (slice_get xs k)) → length b ≡ size
    → take count (drop at (front ++ shown size xs)) ≡ take count (drop s b)
area_chunk front size at k s count xs b sized inside most fits place is len =
    ap (λ (n : ℕ). take count (drop n (front ++ shown size xs))) place
    ∙ ap (take count) (drop-append-add front (shown size xs) (size * k + s) ∙ drop-shown size k s xs sized inside most ∙ ap (λ (w : List ℕ). drop s w ++ shown size (drop (k + 1) xs)) (sym is))
    ∙ take-append-le count (drop s b) (shown size (drop (k + 1) xs)) (omega (arith, fits, len, length-drop s b))

pub zero_chunk : (size s count : ℕ) → count ≤ size - s → take count (drop s (zeros size)) ≡ zeros count
unfolding zeros
zero_chunk size s count fits = ap (take count) (drop-replicate s size 0) ∙ take-replicate count (size - s) 0 fits

pub if_sized : (r : RegionState) (k : ℕ) (o : Option (Bor (List ℕ))) → AreSized (size_of r) r.blocks → option_map (λ b. b.now) o ≡ home (slice_get r.blocks k)
    → IfSome o (λ b. length b.now ≡ size_of r)
if_sized r k None h is = tt
if_sized r k (Some b) h is = size-home (size_of r) r.blocks k b.now h (sym is)

-- an offset is that of its block, and what is left
pub offset_is : (front size at : ℕ) → 0 < size → front ≤ at → at ≡ front + (size * ((at - front) / size) + (at - front) % size)
offset_is front size at some h = omega (arith, h, div-add-mod (at - front) size)

-- the block of an offset is in the area
pub block_inside : (front : List ℕ) (size at : ℕ) (xs : List (Option (List ℕ))) → AreSized size xs → 0 < size → length front ≤ at
    → at < length (front ++ shown size xs) → (at - length front) / size < length xs
block_inside front size at xs sized some area inside =
    let whole : at < length front + size * length xs = omega (arith, inside, length-append front (shown size xs), length-shown size xs sized) in
    below (at - length front) (length xs) (omega (arith, whole, area))
  where
    below : (n m : ℕ) → n < size * m → n / size < m
    below n m h = (div-lt_iff_lt-mul some).1 (omega (arith, h, mul_comm size m))

-- one chunk more
pub chunk_step : (old mid new bytes : List ℕ) (from done at count place : ℕ) → from ≤ done → done + count ≤ length old → place ≡ at + (done - from)
    → place + count ≤ length bytes
    → mid ≡ put old from (take (done - from) (drop at bytes)) → new ≡ put mid done (take count (drop place bytes))
    → new ≡ put old from (take (done + count - from) (drop at bytes))
chunk_step old mid new bytes from done at count place order room is inside first second =
    let D : List ℕ = drop at bytes in
    let len : length (take (done - from) D) ≡ done - from = length-take (done - from) D ∙ omega (arith, length-drop at bytes, is, inside) in
    let len2 : length (take count (drop place bytes)) ≤ count = omega (arith, length-take count (drop place bytes)) in
    second ∙ ap (λ (w : List ℕ). put w done (take count (drop place bytes))) first
    ∙ put-put old from done (take (done - from) D) (take count (drop place bytes)) (omega (arith, len, order)) (omega (arith, len2, room))
    ∙ ap (λ (w : List ℕ). put old from (take (done - from) D ++ take count w)) (ap (λ (n : ℕ). drop n bytes) (is ∙ swapped at (done - from)) ∙ sym (drop-drop (done - from) at bytes))
    ∙ ap (put old from) (sym (take-add (done - from) count D))
    ∙ ap (λ (n : ℕ). put old from (take n D)) (both done from count order)
  where
    swapped : (a b : ℕ) → a + b ≡ a + b
    swapped a b = refl

    both : (d f c : ℕ) → f ≤ d → d - f + c ≡ d + c - f
    both d f c h = omega (arith, h)

-- ==== writing: the blocks that bytes do not touch stay

pub over_first : (size p at : ℕ) (bytes : List ℕ) (i : ℕ) (xs : List (Option (List ℕ))) → AreSized size xs → (0 < i → p + size * i ≤ at)
    → take i xs ++ blocks_over (p + size * i) size at bytes (drop i xs) ≡ blocks_over p size at bytes xs
over_first size p at bytes zero xs sized below = ap (λ (n : ℕ). blocks_over n size at bytes xs) (none p size)
  where
    none : (p s : ℕ) → p + s * 0 ≡ p
    none p s = omega arith
over_first size p at bytes (suc i) [] sized below = refl
over_first size p at bytes (suc i) (x ∷ xs) sized below =
    let here : p + size ≤ at = first p size i at (below (some i)) in
    let rest : take i xs ++ blocks_over (p + size + size * i) size at bytes (drop i xs) ≡ blocks_over (p + size) size at bytes xs =
    over_first size (p + size) at bytes i xs (sized_rest x sized) (λ more. next p size i at (below (some i))) in
    ap (λ (n : ℕ). x ∷ (take i xs ++ blocks_over n size at bytes (drop i xs))) (farther p size i)
    ∙ ap (λ (w : List (Option (List ℕ))). x ∷ w) rest
    ∙ ap (λ (y : Option (List ℕ)). y ∷ blocks_over (p + size) size at bytes xs) (sym (stays x sized here))
  where
    some : (i : ℕ) → 0 < suc i
    some i = omega arith

    first : (p s i a : ℕ) → p + s * suc i ≤ a → p + s ≤ a
    first p s i a h = omega (arith, h, mul-suc s i)

    next : (p s i a : ℕ) → p + s * suc i ≤ a → p + s + s * i ≤ a
    next p s i a h = omega (arith, h, mul-suc s i)

    farther : (p s i : ℕ) → p + s * suc i ≡ p + s + s * i
    farther p s i = omega (arith, mul-suc s i)

    sized_rest : (x : Option (List ℕ)) → AreSized size (x ∷ xs) → AreSized size xs
    sized_rest None h = h
    sized_rest (Some b) h = h.1

    stays : (x : Option (List ℕ)) → AreSized size (x ∷ xs) → p + size ≤ at → option_map (overlaid p at bytes) x ≡ x
    stays None h here = refl
    stays (Some b) h here = ap Some (over_past p at bytes b (omega (arith, h.0, here)))

pub over_last : (size p at : ℕ) (bytes : List ℕ) (xs : List (Option (List ℕ))) → at + length bytes ≤ p → blocks_over p size at bytes xs ≡ xs
over_last size p at bytes [] h = refl
over_last size p at bytes (x ∷ xs) h =
    ap (λ (w : List (Option (List ℕ))). option_map (overlaid p at bytes) x ∷ w) (over_last size (p + size) at bytes xs (omega (arith, h)))
    ∙ ap (λ (y : Option (List ℕ)). y ∷ xs) (stays x)
  where
    stays : (x : Option (List ℕ)) → option_map (overlaid p at bytes) x ≡ x
    stays None = refl
    stays (Some b) = ap Some (over_before p at bytes b (omega (arith, h)))

-- ==== ends of iovecs

pub region_small : (r : RegionState) → IsRegion r.front r.blocks r.pages → length (bytes_of r) < 2 ^ 63
region_small r h =
    small _ _ _ _ (length-append r.front (shown (size_of r) r.blocks)) (length-shown (size_of r) r.blocks h.sized) h.whole (pages_small r.pages (length r.blocks) h.most h.count)
  where
    pages_small : (p n : ℕ) → p ≤ 16 → n < 2 ^ 32 → 4096 * p * n ≤ 65536 * 4294967296
    pages_small p n hp hn = mul-le-mul {n₁ = 4096 * p} {m₁ = n} {n₂ = 65536} {m₂ = 4294967296} (omega (arith, hp)) (omega (arith, hn))

    small : (whole front area most : ℕ) → whole ≡ front + area → area ≡ most → front ≤ 4198400 → most ≤ 65536 * 4294967296 → whole < 2 ^ 63
    small whole front area most e f a b = omega (arith, e, f, a, b)

pub ends_below : (r : RegionState) (iovs : List Iov) → length (bytes_of r) < 2 ^ 63 → LieInRegion r iovs → EndBelow iovs
ends_below r [] small h = tt
ends_below r (iov ∷ iovs) small h = (omega (arith, small, h.0), ends_below r iovs small h.1)

-- ==== from the first block that bytes touch to the last

pub write_begins : (self new : RegionState) (at : ℕ) (bytes : List ℕ) (i : ℕ) → AreSized (size_of self) self.blocks
    → i ≡ (at - length self.front) / size_of self → new ≡ record self { front = overlaid 0 at bytes self.front }
    → record new { blocks = take i new.blocks ++ blocks_over (length new.front + size_of new * i) (size_of new) at bytes (drop i new.blocks) } ≡ wrote self at bytes
write_begins self new at bytes i sized first after =
    let xs : List (Option (List ℕ)) = self.blocks in
    let size : ℕ = size_of self in
    let over : List ℕ = overlaid 0 at bytes self.front in
    let least : i ≤ at - length self.front = subst (λ (n : ℕ). n ≤ at - length self.front) (sym first) (div-le_self (at - length self.front) size) in
    let most : size * i ≤ at - length self.front = subst (λ (n : ℕ). size * n ≤ at - length self.front) (sym first) (mul-div-le (at - length self.front) size) in
    ap (λ (m : RegionState). record m { blocks = take i m.blocks ++ blocks_over (length m.front + size_of m * i) (size_of m) at bytes (drop i m.blocks) }) after
    ∙ ap (λ (n : ℕ). record self { front = over; blocks = take i xs ++ blocks_over (n + size * i) size at bytes (drop i xs) }) (length-overlaid 0 at bytes self.front)
    ∙ ap (λ (w : List (Option (List ℕ))). record self { front = over; blocks = w }) (over_first size (length self.front) at bytes i xs sized (λ some. bound (length self.front) (size * i) i at least most some))
  where
    bound : (p n i a : ℕ) → i ≤ a - p → n ≤ a - p → 0 < i → p + n ≤ a
    bound p n i a least most some = omega (arith, least, most, some)

pub write_ends : (self : RegionState) (at : ℕ) (bytes : List ℕ) (i : ℕ) → (at + length bytes ≤ length self.front + size_of self * i) ⊎ (length self.blocks ≤ i)
    → record self { blocks = take i self.blocks ++ blocks_over (length self.front + size_of self * i) (size_of self) at bytes (drop i self.blocks) } ≡ self
write_ends self at bytes i end =
    let xs : List (Option (List ℕ)) = self.blocks in
    let p : ℕ = length self.front + size_of self * i in
    ⊎_elim
    (λ (behind : at + length bytes ≤ p).
    ap (λ (w : List (Option (List ℕ))). record self { blocks = take i xs ++ w }) (over_last (size_of self) p at bytes (drop i xs) behind)
    ∙ ap (λ (w : List (Option (List ℕ))). record self { blocks = w }) (take-append-drop i xs))
    (λ (all : length xs ≤ i).
    ap (λ (w : List (Option (List ℕ))). record self { blocks = take i xs ++ blocks_over p (size_of self) at bytes w }) (drop_all i xs all)
    ∙ ap (λ (w : List (Option (List ℕ))). record self { blocks = w }) (append-nil (take i xs) ∙ take_all i xs all))
    end

-- the place where the writing ends
pub past_end : (front size end count past i : ℕ) → 0 < size → past ≡ min ((end - front) / size + min 1 ((end - front) % size)) count → past ≤ i
    → (end ≤ front + size * i) ⊎ (count ≤ i)
past_end front size end count past i some is le =
    let ceil : ℕ = (end - front) / size + min 1 ((end - front) % size) in
    let enough : end - front ≤ ceil * size = (div_ceil_times (end - front) size some).0 in
    ⊎_elim
    (λ (all : count ≤ ceil). inr (omega (arith, all, is, le)))
    (λ (less : ceil < count).
    let reached : ceil ≤ i = omega (arith, less, is, le) in
    let room : ceil * size ≤ i * size = mul-le-mul_right size reached in
    inl (omega (arith, enough, room, mul_comm size i)))
    (cases (cases_lt ceil count))
  where
    cases : {a b : ℕ} → (a < b) ⊎ (b ≤ a) → (b ≤ a) ⊎ (a < b)
    cases h = ⊎_elim (λ x. inr x) (λ y. inl y) h

-- ==== one chunk of the area

chunk_here : (r : RegionState) (at count room : ℕ) (b : List ℕ) → IsRegion r.front r.blocks r.pages → length r.front ≤ at → at + room ≤ length (bytes_of r) → 0 < room
    → count ≡ min (size_of r - (at - length r.front) % size_of r) room → b ≡ block_bytes (size_of r) (home (slice_get r.blocks ((at - length r.front) / size_of r)))
    → take count (drop at (bytes_of r)) ≡ take count (drop ((at - length r.front) % size_of r) b)
chunk_here r at count room b h area inside some is b_is =
    let size : ℕ = size_of r in
    let positive : 0 < size = omega (arith, h.least) in
    let less : (at - length r.front) % size < size = mod-lt (at - length r.front) positive in
    area_chunk r.front size at ((at - length r.front) / size) ((at - length r.front) % size) count r.blocks b h.sized
    (block_inside r.front size at r.blocks h.sized positive area (omega (arith, inside, some)))
    (omega (arith, less)) (omega (arith, is)) (offset_is (length r.front) size at positive area) b_is
    (ap length b_is ∙ length-block size r.blocks ((at - length r.front) / size) h.sized)

pub block_chunk : (r : RegionState) (at count room d z : ℕ) (b : List ℕ) → IsRegion r.front r.blocks r.pages → d ≡ length r.front → z ≡ size_of r
    → length r.front ≤ at → at + room ≤ length (bytes_of r) → 0 < room
    → count ≡ min (z - (at - d) % z) room → b ≡ block_bytes (size_of r) (home (slice_get r.blocks ((at - d) / z)))
    → take count (drop at (bytes_of r)) ≡ take count (drop ((at - d) % z) b)
block_chunk r at count room d z b h d_is z_is area inside some =
    subst (λ (y : ℕ). count ≡ min (y - (at - d) % y) room → b ≡ block_bytes (size_of r) (home (slice_get r.blocks ((at - d) / y))) → take count (drop at (bytes_of r)) ≡ take count (drop ((at - d) % y) b)) (sym z_is)
    (subst (λ (e : ℕ). count ≡ min (size_of r - (at - e) % size_of r) room → b ≡ block_bytes (size_of r) (home (slice_get r.blocks ((at - e) / size_of r))) → take count (drop at (bytes_of r)) ≡ take count (drop ((at - e) % size_of r) b)) (sym d_is)
    (chunk_here r at count room b h area inside some))

pub bytes_same : (r : RegionState) (k : ℕ) (b : List ℕ) → Some b ≡ home (slice_get r.blocks k) → b ≡ block_bytes (size_of r) (home (slice_get r.blocks k))
bytes_same r k b h = ap (block_bytes (size_of r)) h

pub zeros_same : (r : RegionState) (k : ℕ) → None ≡ home (slice_get r.blocks k) → zeros (size_of r) ≡ block_bytes (size_of r) (home (slice_get r.blocks k))
zeros_same r k h = ap (block_bytes (size_of r)) h

pub length-chunk : (old new bytes : List ℕ) (done count place : ℕ) → done + count ≤ length old → new ≡ put old done (take count (drop place bytes)) → length new ≡ length old
length-chunk old new bytes done count place room is = ap length is ∙ length-put old done (take count (drop place bytes)) (omega (arith, room, length-take count (drop place bytes)))

-- ==== one iovec more of a reading

pub read_step : (into new bytes : List ℕ) (iovs : List Iov) (i done count total : ℕ) (d : Iov) → i < length iovs → done ≤ total → length into ≡ total
    → count ≡ min (get_or iovs i d).len (total - done) → (get_or iovs i d).base + (get_or iovs i d).len ≤ length bytes
    → new ≡ put into done (take (done + count - done) (drop (get_or iovs i d).base bytes))
    → take (done + count) new ++ take (total - (done + count)) (along bytes (drop (i + 1) iovs)) ≡ take done into ++ take (total - done) (along bytes (drop i iovs))
read_step into new bytes iovs i done count total d inside under len most lies written =
    let iov : Iov = get_or iovs i d in
    let D : List ℕ = drop iov.base bytes in
    let rest : List ℕ = along bytes (drop (i + 1) iovs) in
    let less : count ≤ iov.len = omega (arith, most) in
    let size_all : length (take iov.len D) ≡ iov.len = length-take iov.len D ∙ omega (arith, length-drop iov.base bytes, lies) in
    let size : length (take count D) ≡ count = length-take count D ∙ omega (arith, length-drop iov.base bytes, lies, less) in
    let plain : done + count - done ≡ count = omega arith in
    let front : take (done + count) new ≡ take done into ++ take count D =
    ap (take (done + count)) (written ∙ ap (λ (n : ℕ). put into done (take n D)) plain)
    ∙ take-put into done (take count D) (done + count) (omega (arith, size)) (omega (arith, len, under)) in
    let both : along bytes (drop i iovs) ≡ take iov.len D ++ rest = ap (along bytes) (rest_of iovs i d inside) in
    let cut : take (total - done) (take iov.len D ++ rest) ≡ take count (take iov.len D) ++ take (total - (done + count)) rest =
    first_part (total - done) count (total - (done + count)) (take iov.len D) rest (most ∙ ap (λ (n : ℕ). min n (total - done)) (sym size_all)) (omega arith) in
    ap (λ (w : List ℕ). w ++ take (total - (done + count)) rest) front
    ∙ append_assoc (take done into) (take count D) (take (total - (done + count)) rest)
    ∙ ap (λ (w : List ℕ). take done into ++ (w ++ take (total - (done + count)) rest)) (sym (take-take_less count iov.len D less))
    ∙ ap (λ (w : List ℕ). take done into ++ w) (sym cut)
    ∙ ap (λ (w : List ℕ). take done into ++ take (total - done) w) (sym both)
  where
    take-take_less : (a b : ℕ) (xs : List ℕ) → a ≤ b → take a (take b xs) ≡ take a xs
    take-take_less zero b xs h = refl
    take-take_less (suc a) zero xs h = absurd (omega (arith, h))
    take-take_less (suc a) (suc b) [] h = refl
    take-take_less (suc a) (suc b) (x ∷ xs) h = ap (λ (w : List ℕ). x ∷ w) (take-take_less a b xs (omega (arith, h)))

pub lies_rest : (r : RegionState) (iovs : List Iov) (i : ℕ) (d : Iov) → i < length iovs → LieInRegion r (drop i iovs)
    → ((get_or iovs i d).base + (get_or iovs i d).len ≤ length (bytes_of r)) × LieInRegion r (drop (i + 1) iovs)
lies_rest r iovs i d inside h = subst (λ (w : List Iov). LieInRegion r w) (rest_of iovs i d inside) h

pub total_rest : (iovs : List Iov) (i : ℕ) (d : Iov) → i < length iovs → total_of (drop i iovs) ≡ (get_or iovs i d).len + total_of (drop (i + 1) iovs)
total_rest iovs i d inside = ap total_of (rest_of iovs i d inside)

pub length-region : (r : RegionState) → IsRegion r.front r.blocks r.pages → length (bytes_of r) ≡ length r.front + size_of r * length r.blocks
length-region r h = length-append r.front (shown (size_of r) r.blocks) ∙ ap (λ (n : ℕ). length r.front + n) (length-shown (size_of r) r.blocks h.sized)
