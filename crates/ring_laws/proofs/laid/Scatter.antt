-- Bytes along blocks.
use Rattle.std.proofs.Common.{◌≡◌, ◌≢◌, ℕ, ◌+◌, ◌-◌, ◌*◌, ◌≤◌, ◌<◌, min, false, List, [], ◌∷◌, ◌++◌, length, take, drop, replicate, set, refl, sym, ap, ◌∙◌, arith, suc, zero, Option, Some, slice_get, append_assoc, length-append, length-take, length-drop, append-nil, ⊎_elim, eqb}
use Rattle.std.proofs.lemmas.Bool.{eqb-false, cases_lt, or_parts}
use Rattle.std.proofs.lemmas.List.{take_at, take_all, take-append-drop, drop_all, nil_from_length}
use Rattle.std.proofs.lemmas.Option.{slice_get_within}
use Rattle.tcmu_types.specs.Numbers.{is_among, Differ}
use Rattle.tcmu_types.specs.Lists.{Every}
use Rattle.tcmu_types.specs.Overwriting.{zeros}
use Rattle.region_model.specs.Regions.{home}
use Rattle.region_model.specs.Areas.{block_bytes, bytes_along, over, written_along, IsHome}
use Rattle.ring_laws.proofs.Layouts.{take-past}
use Rattle.tcmu_types.proofs.Places.{get_append_left}

-- an area that has at least n blocks; new ones are zero
abbrev pub grown : ℕ → List (Option (List ℕ)) → ℕ → List (Option (List ℕ))
grown size area n = area ++ replicate (n - length area) (Some (zeros size))

pub get-set_other : {X : Type 0} (xs : List X) (i j : ℕ) (x : X) → i ≢ j → slice_get (set xs i x) j ≡ slice_get xs j
get-set_other [] i j x n = refl
get-set_other (y ∷ ys) zero zero x n = absurd (n refl)
get-set_other (y ∷ ys) zero (suc j) x n = refl
get-set_other (y ∷ ys) (suc i) zero x n = refl
get-set_other (y ∷ ys) (suc i) (suc j) x n = get-set_other ys i j x (λ q. n (ap suc q))

pub get-set_same : {X : Type 0} (xs : List X) (i : ℕ) (x y : X) → slice_get xs i ≡ Some y → slice_get (set xs i x) i ≡ Some x
get-set_same [] i x y h = absurd (cc)
get-set_same (z ∷ zs) zero x y h = refl
get-set_same (z ∷ zs) (suc i) x y h = get-set_same zs i x y h

-- blocks that are not written stay
pub scattered-other : (size : ℕ) (area : List (Option (List ℕ))) (bs : List ℕ) (bytes : List ℕ) (b : ℕ) → is_among bs b ≡ false → slice_get (written_along size area bs bytes) b ≡ slice_get area b
scattered-other size area [] bytes b h = refl
scattered-other size area (c ∷ bs) bytes b h =
    let p = or_parts (eqb c b) (is_among bs b) h in
    scattered-other size (set area c (over (take size bytes) (home (slice_get area c)))) bs (drop size bytes) b p.1 ∙ get-set_other area c b (over (take size bytes) (home (slice_get area c))) (eqb-false c b p.0)

pub here-other : (size : ℕ) (area : List (Option (List ℕ))) (c : ℕ) (o : Option (List ℕ)) (bs : List ℕ) → is_among bs c ≡ false → Every (IsHome size area) bs → Every (IsHome size (set area c o)) bs
here-other size area c o [] h e = tt
here-other size area c o (b ∷ bs) h e =
    let p = or_parts (eqb b c) (is_among bs c) h in
    let i = e.0 in
    ((i.0, get-set_other area c b o (λ q. eqb-false b c p.0 (sym q)) ∙ i.1, i.2), here-other size area c o bs p.1 e.1)

pub along-same : (size : ℕ) (area area' : List (Option (List ℕ))) (bs : List ℕ) → Every (λ b. slice_get area' b ≡ slice_get area b) bs → bytes_along size area' bs ≡ bytes_along size area bs
along-same size area area' [] e = refl
along-same size area area' (b ∷ bs) e =
    ap (λ o. block_bytes size (home o) ++ bytes_along size area' bs) e.0 ∙ ap (λ xs. block_bytes size (home (slice_get area b)) ++ xs) (along-same size area area' bs e.1)

-- what was written stands along the blocks
pub scattered-data : (size : ℕ) (area : List (Option (List ℕ))) (bs : List ℕ) (bytes : List ℕ) → Differ bs → Every (IsHome size area) bs → length bytes ≤ size * length bs →
    Every (IsHome size (written_along size area bs bytes)) bs × (take (length bytes) (bytes_along size (written_along size area bs bytes) bs) ≡ bytes)
scattered-data size area [] bytes d e h = let z : length bytes ≡ 0 = omega arith in let q : bytes ≡ [] = nil_from_length bytes z in (tt, ap (λ (y : List ℕ). take (length y) []) q ∙ sym q)
scattered-data size area (c ∷ bs) bytes d e h =
    let i = e.0 in
    let old : List ℕ = i.0 in
    let bo : home (slice_get area c) ≡ Some old = ap home i.1 in
    let new : List ℕ = take size bytes ++ drop (length (take size bytes)) old in
    let ov : over (take size bytes) (home (slice_get area c)) ≡ Some new = ap (over (take size bytes)) bo in
    let area1 : List (Option (List ℕ)) = set area c (over (take size bytes) (home (slice_get area c))) in
    let area' = written_along size area1 bs (drop size bytes) in
    let lt : length (take size bytes) ≡ min size (length bytes) = length-take size bytes in
    let ln : length new ≡ size = (let a : length new ≡ length (take size bytes) + length (drop (length (take size bytes)) old) = length-append (take size bytes) (drop (length (take size bytes)) old) in
    let b : length (drop (length (take size bytes)) old) ≡ length old - length (take size bytes) = length-drop (length (take size bytes)) old in let lo : length old ≡ size = i.2 in omega arith) in
    let ld : length (drop size bytes) ≡ length bytes - size = length-drop size bytes in
    let rest = scattered-data size area1 bs (drop size bytes) d.1 (here-other size area c (over (take size bytes) (home (slice_get area c))) bs d.0 e.1) (omega (arith, ld, h)) in
    let gc : slice_get area' c ≡ Some (Some new) = scattered-other size area1 bs (drop size bytes) c d.0 ∙ get-set_same area c (over (take size bytes) (home (slice_get area c))) (Some old) i.1 ∙ ap Some ov in
    let al : bytes_along size area' (c ∷ bs) ≡ new ++ bytes_along size area' bs = ap (λ o. block_bytes size (home o) ++ bytes_along size area' bs) gc in
    let a0 : List ℕ = bytes_along size area' bs in
    let rd : take (length (drop size bytes)) a0 ≡ drop size bytes = rest.1 in (
      ((new, gc, ln), rest.0),
      ap (take (length bytes)) al ∙
          ⊎_elim
          (λ (l : size < length bytes).
          let k : length bytes - size ≡ length (drop size bytes) = omega arith in
          let e0 : drop (length (take size bytes)) old ≡ [] = drop_all (length (take size bytes)) old (let lo : length old ≡ size = i.2 in omega arith) in
          let nw : new ≡ take size bytes = ap (λ z. take size bytes ++ z) e0 ∙ append-nil (take size bytes) in
          take-past new a0 (length bytes) size ln (omega arith) ∙ ap (λ z. new ++ take z a0) k ∙ ap (λ z. new ++ z) rd ∙ ap (λ z. z ++ drop size bytes) nw ∙ take-append-drop size bytes)
          (λ (l : length bytes ≤ size).
          let t : take size bytes ≡ bytes = take_all size bytes l in
          let r : List ℕ = drop (length (take size bytes)) old in
          ap (λ z. take (length bytes) (z ++ r ++ a0)) t ∙ ap (take (length bytes)) (append_assoc bytes r a0) ∙ take_at bytes (r ++ a0) (length bytes) refl)
          (cases_lt size (length bytes)),
    )

-- blocks that are there stay there when the area grows
pub grown-old : (size : ℕ) (area : List (Option (List ℕ))) (n b : ℕ) (o : Option (List ℕ)) → slice_get area b ≡ Some o → slice_get (grown size area n) b ≡ Some o
grown-old size area n b o h = get_append_left area _ b (slice_get_within area b o h) ∙ h
