-- Bytes written over parts of a region.
use Rattle.std.proofs.Common.{◌≡◌, ℕ, ◌+◌, ◌-◌, ◌*◌, ◌<◌, ◌≤◌, List, [], ◌∷◌, ◌++◌, length, drop, take, set, get_or, min, Option, Some, None, refl, ap, ◌∙◌, sym, arith, append_assoc, add-one}
use Rattle.std.specs.Prelude.{slice_get}
use Rattle.std.specs.Option.{option_map}
use Rattle.std.proofs.Math.Nat.{mul-add}
use Rattle.std.proofs.Math.Seq.{drop-cons}
use Rattle.std.proofs.lemmas.Grind.{take-set_at}
use Rattle.std.proofs.lemmas.Option.{slice_get-get_or}
use Rattle.std.proofs.lemmas.List.{take_min, take_rest, drop_all, take_all, drop-set-lt}
use Rattle.tcmu_types.specs.ByteFields.{put}
use Rattle.tcmu_types.proofs.ByteFields.{put-nothing}
use Rattle.region_model.specs.Regions.{RegionState, size_of, home, overlaid, blocks_over}
use Rattle.shm_region.proofs.Sized.{set-set}

take_none : (xs : List ℕ) (n : ℕ) → n ≡ 0 → take n xs ≡ []
take_none xs n h = ap (λ (m : ℕ). take m xs) h

take_of_none : (n : ℕ) → take {A = ℕ} n [] ≡ []
take_of_none n = take_all n [] (omega arith)

pub over_past : (place at : ℕ) (bytes x : List ℕ) → length x ≤ at - place → overlaid place at bytes x ≡ x
unfolding overlaid
over_past place at bytes x h =
    ap (put x (at - place)) (take_none (drop (place - at) bytes) (length x - (at - place)) (omega arith)) ∙ put-nothing x (at - place)

pub over_before : (place at : ℕ) (bytes x : List ℕ) → length bytes ≤ place - at → overlaid place at bytes x ≡ x
unfolding overlaid
over_before place at bytes x h =
    ap (put x (at - place)) (ap (take (length x - (at - place))) (drop_all (place - at) bytes h) ∙ take_of_none (length x - (at - place))) ∙ put-nothing x (at - place)

-- what the code writes is the part that falls inside
pub over_is : (place at start skip count : ℕ) (bytes x new : List ℕ) → start ≡ at - place → skip ≡ place - at
    → count ≡ min (length (take (length bytes - skip) (drop skip bytes))) (length x - start)
    → new ≡ put x start (take count (take (length bytes - skip) (drop skip bytes)))
    → new ≡ overlaid place at bytes x
unfolding overlaid
over_is place at start skip count bytes x new is_start is_skip is_count written =
    let whole : take (length bytes - skip) (drop skip bytes) ≡ drop skip bytes = take_rest bytes skip in
    let least : count ≡ min (length x - start) (length (drop skip bytes)) = is_count ∙ ap (λ (w : List ℕ). min (length w) (length x - start)) whole ∙ swapped (length (drop skip bytes)) (length x - start) in
    written
    ∙ ap (λ (w : List ℕ). put x start (take count w)) whole
    ∙ ap (λ (n : ℕ). put x start (take n (drop skip bytes))) least
    ∙ ap (put x start) (take_min (length x - start) (drop skip bytes))
    ∙ ap (λ (n : ℕ). put x n (take (length x - n) (drop skip bytes))) is_start
    ∙ ap (λ (n : ℕ). put x (at - place) (take (length x - (at - place)) (drop n bytes))) is_skip
  where
    swapped : (a b : ℕ) → min a b ≡ min b a
    swapped a b = omega arith

-- a block taken out, changed and put back
pub change_is : (f : List ℕ → List ℕ) (old mid new : RegionState) (k : ℕ) (b z : List ℕ)
    → mid ≡ record old { blocks = set old.blocks k None } → new ≡ record mid { blocks = set mid.blocks k (Some z) }
    → slice_get old.blocks k ≡ Some (Some b) → z ≡ f b
    → new ≡ record old { blocks = set old.blocks k (option_map f (home (slice_get old.blocks k))) }
change_is f old mid new k b z out back was is =
    back
    ∙ ap (λ (m : RegionState). record m { blocks = set m.blocks k (Some z) }) out
    ∙ ap (λ (w : List (Option (List ℕ))). record old { blocks = w })
    (set-set old.blocks k None (Some z)
    ∙ ap (λ (w : List ℕ). set old.blocks k (Some w)) is
    ∙ ap (λ (o : Option (Option (List ℕ))). set old.blocks k (option_map f (home o))) (sym was))

-- one block more
pub write_step : (self new : RegionState) (i at : ℕ) (bytes : List ℕ) → i < length self.blocks
    → new ≡ record self { blocks = set self.blocks i (option_map (overlaid (length self.front + size_of self * i) at bytes) (home (slice_get self.blocks i))) }
    → record new { blocks = take (i + 1) new.blocks ++ blocks_over (length new.front + size_of new * (i + 1)) (size_of new) at bytes (drop (i + 1) new.blocks) }
    ≡ record self { blocks = take i self.blocks ++ blocks_over (length self.front + size_of self * i) (size_of self) at bytes (drop i self.blocks) }
write_step self new i at bytes h after =
    let xs : List (Option (List ℕ)) = self.blocks in
    let place : ℕ = length self.front + size_of self * i in
    let o : Option (List ℕ) = get_or xs i None in
    let y : Option (List ℕ) = option_map (overlaid place at bytes) (home (slice_get xs i)) in
    let is : y ≡ option_map (overlaid place at bytes) o = ap (λ (w : Option (Option (List ℕ))). option_map (overlaid place at bytes) (home w)) (slice_get-get_or xs i None h) in
    let left : drop i xs ≡ o ∷ drop (i + 1) xs = drop-cons xs i None h ∙ ap (λ (m : ℕ). o ∷ drop m xs) (sym (add-one i)) in
    let next : length self.front + size_of self * (i + 1) ≡ place + size_of self = farther (length self.front) (size_of self) i in
    ap (λ (m : RegionState). record m { blocks = take (i + 1) m.blocks ++ blocks_over (length m.front + size_of m * (i + 1)) (size_of m) at bytes (drop (i + 1) m.blocks) }) after
    ∙ ap (λ (w : List (Option (List ℕ))). record self { blocks = w })
    (ap (λ (w : List (Option (List ℕ))). w ++ blocks_over (length self.front + size_of self * (i + 1)) (size_of self) at bytes (drop (i + 1) (set xs i y))) (take-set_at xs i (i + 1) y refl h)
    ∙ ap (λ (w : List (Option (List ℕ))). (take i xs ++ y ∷ []) ++ blocks_over (length self.front + size_of self * (i + 1)) (size_of self) at bytes w) (drop-set-lt (i + 1) xs i y (omega arith))
    ∙ append_assoc (take i xs) (y ∷ []) _
    ∙ ap (λ (p : ℕ). take i xs ++ y ∷ blocks_over p (size_of self) at bytes (drop (i + 1) xs)) next
    ∙ ap (λ (w : Option (List ℕ)). take i xs ++ w ∷ blocks_over (place + size_of self) (size_of self) at bytes (drop (i + 1) xs)) is
    ∙ ap (λ (w : List (Option (List ℕ))). take i xs ++ blocks_over place (size_of self) at bytes w) (sym left))
  where
    farther : (a s i : ℕ) → a + s * (i + 1) ≡ a + s * i + s
    farther a s i = omega (arith, mul-add s i 1)
