-- An answer is placed: its data go back into the blocks of its command.
use Rattle.std.proofs.Common.{◌≡◌, ◌≢◌, ℕ, ◌+◌, ◌-◌, ◌*◌, ◌/◌, ◌≤◌, ◌<◌, min, true, false, List, [], ◌∷◌, ◌++◌, length, take, drop, set, refl, sym, ap, ◌∙◌, arith, suc, Option, Some, None, slice_get, append_assoc, length-append, length-take, length-drop, append-nil, subst, ⊎_elim, eqb}
use Rattle.std.specs.List.{range_with_len}
use Rattle.std.proofs.Math.Nat.{mul-le-mul_left, mul-div_cancel_left}
use Rattle.std.proofs.lemmas.Bool.{cases_Bool, eqb-true, eqb-false, cases_lt, or_parts}
use Rattle.std.proofs.lemmas.List.{drop_at, take_all, take-append-drop, drop_all, drop-append-le, drop-drop, nil_from_length}
use Rattle.tcmu_types.specs.declared.iovec.Iov.{Iov}
use Rattle.tcmu_types.specs.Numbers.{is_among, Differ}
use Rattle.region_model.specs.Iovecs.{merged, iovs_along, scattered, gathered}
use Rattle.tcmu_types.specs.ByteFields.{put}
use Rattle.region_model.specs.Regions.{home, HaveSize, first_block, block_count, numbers_of, put_home, put_where, returned}
use Rattle.tcmu_types.specs.Lists.{Every}
use Rattle.region_model.specs.Areas.{block_bytes, bytes_along, IsHome, IsLent}
use Rattle.ring_laws.proofs.laid.Scatter.{get-set_other, get-set_same, here-other, along-same}
use Rattle.region_model.proofs.Areas.{put-front}

-- ==== what is given back

put_other : (area : List (Option (List ℕ))) (c : ℕ) (p : List ℕ) (b : ℕ) → c ≢ b → slice_get (put_home area c p) b ≡ slice_get area b
put_other area c p b n = by_place (slice_get area c)
  where
    by_place : (o : Option (Option (List ℕ))) → slice_get (put_where o area c p) b ≡ slice_get area b
    by_place None = refl
    by_place (Some None) = get-set_other area c b (Some p) n
    by_place (Some (Some old)) = refl

pub returned-other : (area : List (Option (List ℕ))) (bs : List ℕ) (ps : List (List ℕ)) (b : ℕ) → is_among bs b ≡ false → slice_get (returned area bs ps) b ≡ slice_get area b
returned-other area [] ps b h = refl
returned-other area (c ∷ bs) [] b h = refl
returned-other area (c ∷ bs) (p ∷ ps) b h =
    let q = or_parts (eqb c b) (is_among bs b) h in
    put_other (returned area bs ps) c p b (eqb-false c b q.0) ∙ returned-other area bs ps b q.1

pub set-leaves : (area : List (Option (List ℕ))) (c : ℕ) (o : Option (List ℕ)) (bs : List ℕ) → is_among bs c ≡ false → Every (λ b. slice_get (set area c o) b ≡ slice_get area b) bs
set-leaves area c o [] h = tt
set-leaves area c o (b ∷ bs) h =
    let q = or_parts (eqb b c) (is_among bs c) h in
    (get-set_other area c b o (λ z. eqb-false b c q.0 (sym z)), set-leaves area c o bs q.1)

-- lent blocks come back with what is in the parts
pub returned-data : (size : ℕ) (area : List (Option (List ℕ))) (bs : List ℕ) (ps : List (List ℕ)) → length ps ≡ length bs → Differ bs → Every (IsLent area) bs → HaveSize size ps →
    Every (IsHome size (returned area bs ps)) bs × (bytes_along size (returned area bs ps) bs ≡ gathered ps)
returned-data size area [] [] l d e w = (tt, refl)
returned-data size area [] (p ∷ ps) l d e w = absurd (omega arith)
returned-data size area (b ∷ bs) [] l d e w = absurd (omega arith)
returned-data size area (b ∷ bs) (p ∷ ps) l d e w =
    let rest : List (Option (List ℕ)) = returned area bs ps in
    let g : slice_get rest b ≡ Some None = returned-other area bs ps b d.0 ∙ e.0 in
    let new : List (Option (List ℕ)) = set rest b (Some p) in
    let pt : put_home rest b p ≡ new = ap (λ o. put_where o rest b p) g in
    let r = returned-data size area bs ps (omega arith) d.1 e.1 w.1 in
    let m : slice_get new b ≡ Some (Some p) = get-set_same rest b (Some p) None g in
    subst (λ (a : List (Option (List ℕ))). Every (IsHome size a) (b ∷ bs) × (bytes_along size a (b ∷ bs) ≡ gathered (p ∷ ps))) (sym pt)
    (((p, m, w.0), here-other size rest b (Some p) bs d.0 r.0), ap (λ o. block_bytes size (home o) ++ bytes_along size new bs) m ∙ ap (λ xs. p ++ xs) (along-same size rest new bs (set-leaves rest b (Some p) bs d.0) ∙ r.1))

-- ==== the payload in the parts

pub scattered-payload : (ps : List (List ℕ)) (bytes : List ℕ) → length bytes ≤ length (gathered ps) → gathered (scattered ps bytes) ≡ bytes ++ drop (length bytes) (gathered ps)
scattered-payload [] bytes h = let z : length bytes ≡ 0 = omega arith in let q : bytes ≡ [] = nil_from_length bytes z in sym (ap (λ (y : List ℕ). y ++ drop (length y) []) q)
scattered-payload (p ∷ ps) bytes h =
    let lc : length (p ++ gathered ps) ≡ length p + length (gathered ps) = length-append p (gathered ps) in
    let ld : length (drop (length p) bytes) ≡ length bytes - length p = length-drop (length p) bytes in
    let ih : gathered (scattered ps (drop (length p) bytes)) ≡ drop (length p) bytes ++ drop (length (drop (length p) bytes)) (gathered ps) = scattered-payload ps (drop (length p) bytes) (omega arith) in
    let t : List ℕ = take (length p) bytes in
    let lt : length t ≡ min (length p) (length bytes) = length-take (length p) bytes in
    let first : put p 0 t ++ gathered (scattered ps (drop (length p) bytes)) ≡ t ++ drop (length t) p ++ gathered (scattered ps (drop (length p) bytes)) = ap (λ z. z ++ gathered (scattered ps (drop (length p) bytes))) (put-front p t) in
    first ∙ ⊎_elim
    (λ (l : length p < length bytes).
    let e0 : drop (length t) p ≡ [] = drop_all (length t) p (omega arith) in
    let k : length bytes ≡ length p + length (drop (length p) bytes) = omega arith in
    let dr : drop (length bytes) (p ++ gathered ps) ≡ drop (length (drop (length p) bytes)) (gathered ps) =
    ap (λ z. drop z (p ++ gathered ps)) k ∙ sym (drop-drop (length (drop (length p) bytes)) (length p) (p ++ gathered ps)) ∙ ap (drop (length (drop (length p) bytes))) (drop_at p (gathered ps) (length p) refl) in
    ap (λ z. t ++ z ++ gathered (scattered ps (drop (length p) bytes))) e0 ∙ ap (λ z. z ++ gathered (scattered ps (drop (length p) bytes))) (append-nil t) ∙ ap (λ z. t ++ z) ih
    ∙ sym (append_assoc t (drop (length p) bytes) (drop (length (drop (length p) bytes)) (gathered ps))) ∙ ap (λ z. z ++ drop (length (drop (length p) bytes)) (gathered ps)) (take-append-drop (length p) bytes)
    ∙ ap (λ z. bytes ++ z) (sym dr))
    (λ (l : length bytes ≤ length p).
    let te : t ≡ bytes = take_all (length p) bytes l in
    let de : drop (length p) bytes ≡ [] = drop_all (length p) bytes l in
    let ih0 : gathered (scattered ps (drop (length p) bytes)) ≡ gathered ps = ih ∙ ap (λ (y : List ℕ). y ++ drop (length y) (gathered ps)) de in
    ap (λ z. t ++ drop (length t) p ++ z) ih0 ∙ ap (λ (y : List ℕ). y ++ drop (length y) p ++ gathered ps) te ∙ append_assoc bytes (drop (length bytes) p) (gathered ps)
    ∙ ap (λ z. bytes ++ z) (sym (drop-append-le (length bytes) p (gathered ps) l)))
    (cases_lt (length p) (length bytes))

pub length-scattered : (ps : List (List ℕ)) (bytes : List ℕ) → length (scattered ps bytes) ≡ length ps
length-scattered [] bytes = refl
length-scattered (p ∷ ps) bytes = ap suc (length-scattered ps (drop (length p) bytes))

pub sizes-scattered : (size : ℕ) (ps : List (List ℕ)) (bytes : List ℕ) → HaveSize size ps → HaveSize size (scattered ps bytes)
sizes-scattered size [] bytes e = tt
sizes-scattered size (p ∷ ps) bytes e =
    let t : List ℕ = take (length p) bytes in
    let lt : length t ≡ min (length p) (length bytes) = length-take (length p) bytes in
    let a : length (t ++ drop (length t) p) ≡ length t + length (drop (length t) p) = length-append t (drop (length t) p) in
    let b : length (drop (length t) p) ≡ length p - length t = length-drop (length t) p in
    (ap length (put-front p t) ∙ omega (arith, lt, a, b, e.0), sizes-scattered size ps (drop (length p) bytes) e.1)

pub length-gathered : (size : ℕ) (ps : List (List ℕ)) → HaveSize size ps → length (gathered ps) ≡ size * length ps
length-gathered size [] e = let z : 0 ≡ size * 0 = omega arith in z
length-gathered size (p ∷ ps) e =
    let a : length (p ++ gathered ps) ≡ length p + length (gathered ps) = length-append p (gathered ps) in
    let i : length (gathered ps) ≡ size * length ps = length-gathered size ps e.1 in
    let k : size * suc (length ps) ≡ size + size * length ps = omega arith in
    a ∙ (let z : length p + length (gathered ps) ≡ size * suc (length ps) = omega (arith, e.0, i, k) in z)

-- ==== the blocks along iovecs

div-more : (size x : ℕ) → 0 < size → (size + x) / size ≡ 1 + x / size
div-more size x z =
    let q : ℕ = (size + x) / size in
    let p : ℕ = x / size in
    ⊎_elim
    (λ (l : q < p + 1). let m : size * q ≤ size * p = mul-le-mul_left size (omega arith) in absurd (omega arith))
    (λ (l : p + 1 ≤ q).
    ⊎_elim
    (λ (k : p + 1 < q). let m : size * (p + 2) ≤ size * q = mul-le-mul_left size (omega arith) in absurd (omega arith))
    (λ (k : q ≤ p + 1). omega arith)
    (cases_lt (p + 1) q))
    (cases_lt q (p + 1))

div-small : (x size : ℕ) → x < size → x / size ≡ 0
div-small x size l =
    ⊎_elim
    (λ (k : 0 < x / size). let m : size * 1 ≤ size * (x / size) = mul-le-mul_left size (omega arith) in absurd (omega arith))
    (λ (k : x / size ≤ 0). omega arith)
    (cases_lt 0 (x / size))

ceil-one : (n size : ℕ) → 0 < n → n ≤ size → (n + (size - 1)) / size ≡ 1
ceil-one n size z l =
    let e : n + (size - 1) ≡ size + (n - 1) = omega arith in
    ap (λ y. y / size) e ∙ div-more size (n - 1) (omega arith) ∙ ap (λ y. 1 + y) (div-small (n - 1) size (omega arith))

block-number : (start size b : ℕ) → 0 < size → (start + size * b - start) / size ≡ b
block-number start size b z = let e : start + size * b - start ≡ size * b = omega arith in ap (λ y. y / size) e ∙ mul-div_cancel_left b z

first-number : (start size b n : ℕ) → 0 < n → n ≤ size → range_with_len (first_block start size (record { base = start + size * b; len = n })) (block_count size (record { base = start + size * b; len = n })) ≡ b ∷ []
first-number start size b n z l =
    ap (λ y. range_with_len y ((n + (size - 1)) / size)) (block-number start size b (omega arith)) ∙ ap (range_with_len b) (ceil-one n size z l)

merged-numbers : (start size b : ℕ) (es : List Iov) → 0 < size → numbers_of start size (merged (record { base = start + size * b; len = size }) es) ≡ b ∷ numbers_of start size es
unfolding merged
merged-numbers start size b [] z = ap (λ y. y ++ []) (first-number start size b size z (omega arith))
merged-numbers start size b (f ∷ fs) z =
    ⊎_elim
    (λ (e : eqb (start + size * b + size) f.base ≡ true).
    let fb : start + size * b + size ≡ f.base = eqb-true _ _ e in
    let k : size + f.len + (size - 1) ≡ size + (f.len + (size - 1)) = omega arith in
    let c : (size + f.len + (size - 1)) / size ≡ suc ((f.len + (size - 1)) / size) = ap (λ y. y / size) k ∙ div-more size (f.len + (size - 1)) z ∙ (let q : 1 + (f.len + (size - 1)) / size ≡ suc ((f.len + (size - 1)) / size) = omega arith in q) in
    let g : f.base - start ≡ start + size * (b + 1) - start = omega arith in
    let n : (f.base - start) / size ≡ b + 1 = ap (λ y. y / size) g ∙ block-number start size (b + 1) z in
    let m : range_with_len ((start + size * b - start) / size) ((size + f.len + (size - 1)) / size) ≡ b ∷ range_with_len (first_block start size f) (block_count size f) =
    ap (λ y. range_with_len y ((size + f.len + (size - 1)) / size)) (block-number start size b z) ∙ ap (range_with_len b) c ∙ ap (λ y. b ∷ range_with_len y ((f.len + (size - 1)) / size)) (sym n) in
    rw e (ap (λ y. y ++ numbers_of start size fs) m))
    (λ (e : eqb (start + size * b + size) f.base ≡ false). rw e (ap (λ y. y ++ (range_with_len (first_block start size f) (block_count size f) ++ numbers_of start size fs)) (first-number start size b size z (omega arith))))
    (cases_Bool (eqb (start + size * b + size) f.base))

pub iovs-numbers : (start size : ℕ) (bs : List ℕ) (n : ℕ) → 0 < size → n ≤ size * length bs → size * length bs < n + size → numbers_of start size (iovs_along start size bs n) ≡ bs
unfolding iovs_along merged
iovs-numbers start size [] n z h l = refl
iovs-numbers start size (b ∷ []) n z h l =
    let m : min size n ≡ n = omega arith in
    ap (λ y. numbers_of start size (record { base = start + size * b; len = y } ∷ [])) m ∙ ap (λ y. y ++ []) (first-number start size b n (omega arith) (omega arith))
iovs-numbers start size (b ∷ c ∷ bs) n z h l =
    let k : size * length (b ∷ c ∷ bs) ≡ size + (size + size * length bs) = omega arith in
    let j : size * length (c ∷ bs) ≡ size + size * length bs = omega arith in
    let m : min size n ≡ size = omega arith in
    ap (λ y. numbers_of start size (merged (record { base = start + size * b; len = y }) (iovs_along start size (c ∷ bs) (n - size)))) m
    ∙ merged-numbers start size b (iovs_along start size (c ∷ bs) (n - size)) z
    ∙ ap (λ y. b ∷ y) (iovs-numbers start size (c ∷ bs) (n - size) z (omega arith) (omega arith))
