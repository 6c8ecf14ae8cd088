-- Blocks keep their size.
use Rattle.std.proofs.Common.{◌≡◌, ℕ, zero, suc, ◌+◌, ◌*◌, ◌^◌, ◌<◌, List, [], ◌∷◌, ◌++◌, length, set, get_or, Bool, true, false, cond, IfSome, length-append, Option, Some, None, refl, ap, ◌∙◌, sym, arith}
use Rattle.std.specs.Prelude.{slice_get}
use Rattle.tcmu_types.specs.Overwriting.{zeros}
use Rattle.region_model.specs.Regions.{AreSized, IsRegion, RegionState, size_of, cleared, home}

pub sized-push : (size : ℕ) (b : List ℕ) (xs : List (Option (List ℕ))) → length b ≡ size → AreSized size xs → AreSized size (xs ++ Some b ∷ [])
sized-push size b [] len h = (len, tt)
sized-push size b (None ∷ xs) len h = sized-push size b xs len h
sized-push size b (Some a ∷ xs) len h = (h.0, sized-push size b xs len h.1)

pub sized-get : (size k : ℕ) (b : List ℕ) (xs : List (Option (List ℕ))) (d : Option (List ℕ)) → AreSized size xs → k < length xs → get_or xs k d ≡ Some b → length b ≡ size
sized-get size k b [] d h inside is = absurd (omega arith)
sized-get size zero b (None ∷ xs) d h inside is = cc
sized-get size zero b (Some a ∷ xs) d h inside is =
    let same : a ≡ b = cc in
    ap length (sym same) ∙ h.0
sized-get size (suc k) b (None ∷ xs) d h inside is = sized-get size k b xs d h (omega arith) is
sized-get size (suc k) b (Some a ∷ xs) d h inside is = sized-get size k b xs d h.1 (omega arith) is

-- a region whose blocks are others
pub with_blocks : (front : List ℕ) (old new : List (Option (List ℕ))) (pages : ℕ) → IsRegion front old pages → length new < 2 ^ 32 → AreSized (4096 * pages) new → IsRegion front new pages
with_blocks front old new pages h count sized = record {
  least = h.least;
  most = h.most;
  mailbox = h.mailbox;
  whole = h.whole;
  count = count;
  sized = sized;
}

pub sized-if : (size k : ℕ) (o d : Option (List ℕ)) (xs : List (Option (List ℕ))) → AreSized size xs → k < length xs → get_or xs k d ≡ o → IfSome o (λ b. length b ≡ size)
sized-if size k None d xs h inside is = tt
sized-if size k (Some b) d xs h inside is = sized-get size k b xs d h inside is

pub sized-cond : (size : ℕ) (ok : Bool) (b : List ℕ) (xs : List (Option (List ℕ))) → length b ≡ size → AreSized size xs → AreSized size (cond ok (xs ++ Some b ∷ []) xs)
sized-cond size true b xs len h = sized-push size b xs len h
sized-cond size false b xs len h = h

pub length-cond : (ok : Bool) (b : List ℕ) (xs : List (Option (List ℕ))) → length xs + 1 < 2 ^ 32 → length (cond ok (xs ++ Some b ∷ []) xs) < 2 ^ 32
length-cond true b xs h = simp length-append (omega arith)
length-cond false b xs h = omega arith

pub set-set : {X : Type 0} (xs : List X) (k : ℕ) (a b : X) → set (set xs k a) k b ≡ set xs k b
set-set [] k a b = refl
set-set (x ∷ xs) zero a b = refl
set-set (x ∷ xs) (suc k) a b = ap (λ w. x ∷ w) (set-set xs k a b)

-- a block taken out, cleared and put back
pub clear_is : (old mid new : RegionState) (k : ℕ) (b z : List ℕ)
    → mid ≡ record old { blocks = set old.blocks k None } → new ≡ record mid { blocks = set mid.blocks k (Some z) }
    → slice_get old.blocks k ≡ Some (Some b) → z ≡ zeros (length b) → length b ≡ size_of old
    → new ≡ record old { blocks = set old.blocks k (cleared (size_of old) (home (slice_get old.blocks k))) }
clear_is old mid new k b z out back was zero_is size =
    back
    ∙ ap (λ (m : RegionState). record m { blocks = set m.blocks k (Some z) }) out
    ∙ ap (λ (w : List (Option (List ℕ))). record old { blocks = w })
    (set-set old.blocks k None (Some z)
    ∙ ap (λ (w : List ℕ). set old.blocks k (Some w)) (zero_is ∙ ap zeros size)
    ∙ ap (λ (o : Option (Option (List ℕ))). set old.blocks k (cleared (size_of old) (home o))) (sym was))
