-- One block of what is written and read along blocks.
use Rattle.std.proofs.Common.{◌≡◌, ℕ, zero, suc, ◌+◌, ◌-◌, ◌*◌, ◌<◌, ◌≤◌, min, List, [], ◌∷◌, ◌++◌, length, take, drop, replicate, set, get_or, Option, Some, None, refl, sym, ap, ◌∙◌, arith, append_assoc, length-drop}
use Rattle.std.specs.Prelude.{slice_get}
use Rattle.std.specs.Option.{option_map}
use Rattle.std.proofs.lemmas.List.{append-nil, drop-drop, drop_all, drop_more, take_min, take-replicate, drop-replicate}
use Rattle.tcmu_types.specs.ByteFields.{put}
use Rattle.tcmu_types.specs.Overwriting.{zeros}
use Rattle.tcmu_types.proofs.ByteFields.{length-zeros}
use Rattle.region_model.specs.Areas.{block_bytes, bytes_along, over, written_along}
use Rattle.region_model.specs.Regions.{AreSized, RegionState, size_of, home, cleared}
use Rattle.shm_region.proofs.Over.{change_is}
use Rattle.region_model.proofs.Areas.{length-block, put-front}

-- ==== written

over-map : (bytes : List ℕ) (o : Option (List ℕ)) → option_map (λ (b : List ℕ). bytes ++ drop (length bytes) b) o ≡ over bytes o
over-map bytes None = refl
over-map bytes (Some b) = refl

-- a block taken out, written over and put back
pub write_is : (old mid new : RegionState) (k : ℕ) (b z bytes : List ℕ)
    → mid ≡ record old { blocks = set old.blocks k None } → new ≡ record mid { blocks = set mid.blocks k (Some z) }
    → slice_get old.blocks k ≡ Some (Some b) → z ≡ put b 0 bytes
    → new ≡ record old { blocks = set old.blocks k (over bytes (home (slice_get old.blocks k))) }
write_is old mid new k b z bytes out back was is =
    change_is (λ (x : List ℕ). bytes ++ drop (length bytes) x) old mid new k b z out back was (is ∙ put-front b bytes)
    ∙ ap (λ (o : Option (List ℕ)). record old { blocks = set old.blocks k o }) (over-map bytes (home (slice_get old.blocks k)))

-- the blocks of a list from an index on, one of them written
along_step : (self new : RegionState) (list : List ℕ) (i d : ℕ) (rest bytes left : List ℕ) → i < length list
    → new ≡ record self { blocks = set self.blocks (get_or list i d) (over bytes (home (slice_get self.blocks (get_or list i d)))) }
    → bytes ≡ take (size_of self) rest → left ≡ drop (size_of self) rest
    → record new { blocks = written_along (size_of new) new.blocks (drop (i + 1) list) left } ≡ record self { blocks = written_along (size_of self) self.blocks (drop i list) rest }
along_step self new list i d rest bytes left h after is_bytes is_left =
    let n : ℕ = get_or list i d in
    let size : ℕ = size_of self in
    ap (λ (m : RegionState). record m { blocks = written_along (size_of m) m.blocks (drop (i + 1) list) left }) after
    ∙ ap (λ (w : List ℕ). record self { blocks = written_along size (set self.blocks n (over w (home (slice_get self.blocks n)))) (drop (i + 1) list) left }) is_bytes
    ∙ ap (λ (w : List ℕ). record self { blocks = written_along size (set self.blocks n (over (take size rest) (home (slice_get self.blocks n)))) (drop (i + 1) list) w }) is_left
    ∙ sym (ap (λ (ns : List ℕ). record self { blocks = written_along size self.blocks ns rest }) (drop_more list i d h))

take_least : (n k : ℕ) (xs : List ℕ) → k ≡ min (length xs) n → take k xs ≡ take n xs
take_least n k xs h = ap (λ (m : ℕ). take m xs) (h ∙ swapped (length xs) n) ∙ take_min n xs
  where
    swapped : (a b : ℕ) → min a b ≡ min b a
    swapped a b = omega arith

drop_least : (n k : ℕ) (xs : List ℕ) → k ≡ min (length xs) n → drop k xs ≡ drop n xs
drop_least n k [] h = drop_all k [] (omega arith) ∙ sym (drop_all n [] (omega arith))
drop_least zero k (x ∷ xs) h = let none : k ≡ 0 = omega arith in ap (λ (m : ℕ). drop m (x ∷ xs)) none
drop_least (suc n) zero (x ∷ xs) h = absurd (omega arith)
drop_least (suc n) (suc k) (x ∷ xs) h = drop_least n k xs (omega arith)

-- one block more, behind so many bytes
pub written_step : (self new : RegionState) (list : List ℕ) (i d : ℕ) (all : List ℕ) (done count : ℕ) (bytes : List ℕ) → i < length list → done ≤ length all → count ≡ min (length all - done) (size_of self)
    → bytes ≡ take count (drop done all)
    → new ≡ record self { blocks = set self.blocks (get_or list i d) (over bytes (home (slice_get self.blocks (get_or list i d)))) }
    → record new { blocks = written_along (size_of new) new.blocks (drop (i + 1) list) (drop (done + count) all) } ≡ record self { blocks = written_along (size_of self) self.blocks (drop i list) (drop done all) }
written_step self new list i d all done count bytes h within is_count is_bytes after =
    let rest : List ℕ = drop done all in
    let least : count ≡ min (length rest) (size_of self) = is_count ∙ ap (λ (n : ℕ). min n (size_of self)) (sym (length-drop done all)) in
    along_step self new list i d rest bytes (drop (done + count) all) h after
    (is_bytes ∙ take_least (size_of self) count rest least)
    (sym (drop-drop count done all) ∙ drop_least (size_of self) count rest least)

-- ==== cleared

cleared-over : (size : ℕ) (o : Option (List ℕ)) → length (block_bytes size o) ≡ size → cleared size o ≡ over (zeros size) o
cleared-over size None h = refl
cleared-over size (Some b) h =
    ap Some (sym (ap (λ (w : List ℕ). zeros size ++ w) (drop_all (length (zeros size)) b (omega (arith, length-zeros size, h))) ∙ append-nil (zeros size)))

pub clear_step : (self new : RegionState) (list : List ℕ) (i d : ℕ) → i < length list → AreSized (size_of self) self.blocks
    → new ≡ record self { blocks = set self.blocks (get_or list i d) (cleared (size_of self) (home (slice_get self.blocks (get_or list i d)))) }
    → record new { blocks = written_along (size_of new) new.blocks (drop (i + 1) list) (zeros (size_of new * length (drop (i + 1) list))) }
    ≡ record self { blocks = written_along (size_of self) self.blocks (drop i list) (zeros (size_of self * length (drop i list))) }
unfolding zeros
clear_step self new list i d h sized after =
    let n : ℕ = get_or list i d in
    let size : ℕ = size_of self in
    let k : ℕ = length (drop (i + 1) list) in
    let same : size_of new ≡ size = ap (λ (m : RegionState). size_of m) after in
    let whole : size * length (drop i list) ≡ size + size * k = more size (length list) i (length (drop i list)) k (length-drop i list) (length-drop (i + 1) list) h in
    let front : zeros size ≡ take size (zeros (size * length (drop i list))) = sym (ap (λ (m : ℕ). take size (zeros m)) whole ∙ take-replicate size (size + size * k) 0 (omega arith)) in
    let behind : zeros (size_of new * k) ≡ drop size (zeros (size * length (drop i list))) =
    ap (λ (m : ℕ). zeros (m * k)) same ∙ sym (ap (λ (m : ℕ). drop size (zeros m)) whole ∙ drop-replicate size (size + size * k) 0 ∙ ap zeros (less size (size * k))) in
    along_step self new list i d (zeros (size * length (drop i list))) (zeros size) (zeros (size_of new * k)) h
    (after ∙ ap (λ (o : Option (List ℕ)). record self { blocks = set self.blocks n o }) (cleared-over size (home (slice_get self.blocks n)) (length-block size self.blocks n sized)))
    front behind
  where
    more : (s l i a b : ℕ) → a ≡ l - i → b ≡ l - (i + 1) → i < l → s * a ≡ s + s * b
    more s l i a b p q h = let e : a ≡ b + 1 = omega arith in ap (λ (m : ℕ). s * m) e ∙ omega arith

    less : (a b : ℕ) → a + b - a ≡ b
    less a b = omega arith

-- ==== read

-- the first bytes of a block that is not at home
pub take_lent : (size left count : ℕ) (o : Option (List ℕ)) → None ≡ o → count ≡ min size left → replicate count 0 ≡ take left (block_bytes size o)
unfolding zeros
take_lent size left count o is h =
    ap zeros h ∙ zeros-least size left ∙ ap (λ (w : Option (List ℕ)). take left (block_bytes size w)) is
  where
    zeros-least : (s l : ℕ) → zeros (min s l) ≡ take l (zeros s)
    zeros-least s l = sym (take-replicate (min s l) s 0 (omega arith)) ∙ ap (λ (m : ℕ). take m (zeros s)) (omega (arith, length-zeros s)) ∙ take_least l (min s l) (zeros s) (omega (arith, length-zeros s))

take-both : (n : ℕ) (xs ys : List ℕ) → take n (xs ++ ys) ≡ take n xs ++ take (n - length xs) ys
take-both zero xs ys = ap (λ (k : ℕ). take k ys) (none (length xs))
  where
    none : (k : ℕ) → 0 ≡ 0 - k
    none k = omega arith
take-both (suc n) [] ys = ap (λ (k : ℕ). take k ys) (all (suc n))
  where
    all : (k : ℕ) → k ≡ k - 0
    all k = omega arith
take-both (suc n) (x ∷ xs) ys = ap (λ (zs : List ℕ). x ∷ zs) (take-both n xs ys) ∙ ap (λ (k : ℕ). x ∷ (take n xs ++ take k ys)) (both n (length xs))
  where
    both : (n l : ℕ) → n - l ≡ suc n - suc l
    both n l = omega arith

-- what is read up to a block, with that block
pub read_along_step : (size : ℕ) (area : List (Option (List ℕ))) (list : List ℕ) (i d left count : ℕ) (into new : List ℕ) → i < length list → AreSized size area
    → new ≡ into ++ take left (block_bytes size (home (slice_get area (get_or list i d)))) → count ≡ min size left
    → new ++ take (left - count) (bytes_along size area (drop (i + 1) list)) ≡ into ++ take left (bytes_along size area (drop i list))
read_along_step size area list i d left count into new h sized after is_count =
    let b : List ℕ = block_bytes size (home (slice_get area (get_or list i d))) in
    let rest : List ℕ = bytes_along size area (drop (i + 1) list) in
    let len : length b ≡ size = length-block size area (get_or list i d) sized in
    let less : left - count ≡ left - length b = omega arith in
    ap (λ (w : List ℕ). w ++ take (left - count) rest) after
    ∙ append_assoc into (take left b) (take (left - count) rest)
    ∙ ap (λ (w : List ℕ). into ++ w)
    (ap (λ (m : ℕ). take left b ++ take m rest) less
    ∙ sym (take-both left b rest)
    ∙ sym (ap (λ (ns : List ℕ). take left (bytes_along size area ns)) (drop_more list i d h)))
