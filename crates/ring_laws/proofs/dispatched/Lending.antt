-- The blocks of a command that are at home can be lent along its iovecs: the parts have what stood in them.
use Rattle.std.proofs.Common.{◌≡◌, ℕ, ◌+◌, ◌-◌, ◌*◌, ◌%◌, ◌≤◌, ◌<◌, ◌==◌, ◌&&◌, min, true, false, List, [], ◌∷◌, ◌++◌, length, set, refl, sym, ap, ◌∙◌, arith, Option, Some, None, slice_get, ⊎_elim, eqb, nat_le, nat_lt}
use Rattle.std.specs.Prelude.{unwrap_or}
use Rattle.std.proofs.Math.Nat.{add-mul-mod_self_left, mod_self, mul-mod_right}
use Rattle.std.proofs.lemmas.Bool.{cases_Bool, eqb-true, eqb-false, eq-eqb, or_parts, and_from, and_parts}
use Rattle.std.proofs.lemmas.Bool.Decides.{nat_tests}
use Rattle.tcmu_types.specs.declared.iovec.Iov.{Iov}
use Rattle.tcmu_types.specs.Numbers.{is_among, Differ}
use Rattle.region_model.specs.Iovecs.{merged, iovs_along, gathered}
use Rattle.tcmu_types.specs.Lists.{Every}
use Rattle.region_model.specs.Areas.{block_bytes, bytes_along, IsHome, IsLent}
use Rattle.region_model.specs.Regions.{home, is_home, starts_block, are_whole, can_take, taken, without, HaveSize}
use Rattle.ring_laws.proofs.laid.Scatter.{get-set_other, get-set_same, here-other, along-same}
use Rattle.ring_laws.proofs.placed.AnswerData.{set-leaves}

-- ==== the iovecs are whole

zero_is : (n : ℕ) → n ≡ 0 → n == 0 ≡ true
zero_is n h = eq-eqb n 0 h

starts : (start size b n : ℕ) → 0 < n → starts_block start size (record { base = start + size * b; len = n }) ≡ true
starts start size b n h =
    let e : start + size * b - start ≡ size * b = omega arith in
    let m : (start + size * b - start) % size ≡ 0 = ap (λ y. y % size) e ∙ mul-mod_right size b in
    let a : nat_le start (start + size * b) ≡ true = behind start (size * b) in
    let c : nat_lt 0 n ≡ true = some n h in
    ap (λ y. y && ((start + size * b - start) % size == 0) && nat_lt 0 n) a
    ∙ ap (λ y. y && nat_lt 0 n) (zero_is ((start + size * b - start) % size) m) ∙ c
  where
    behind : (a b : ℕ) → nat_le a (a + b) ≡ true
    behind a b = grind (arith, nat_tests)

    some : (n : ℕ) → 0 < n → nat_lt 0 n ≡ true
    some n h = grind (arith, nat_tests)

-- a whole block in front of whole iovecs
whole-merged : (start size b : ℕ) (es : List Iov) → 0 < size → are_whole start size es ≡ true → are_whole start size (merged (record { base = start + size * b; len = size }) es) ≡ true
unfolding merged
whole-merged start size b [] z h = starts start size b size z
whole-merged start size b (f ∷ []) z h =
    ⊎_elim
    (λ (e : eqb (start + size * b + size) f.base ≡ true). rw e (starts start size b (size + f.len) (omega arith)))
    (λ (e : eqb (start + size * b + size) f.base ≡ false).
    rw e (and_from _ _ (and_from _ _ (starts start size b size z) (zero_is (size % size) (mod_self size))) h))
    (cases_Bool (eqb (start + size * b + size) f.base))
whole-merged start size b (f ∷ g ∷ fs) z h =
    ⊎_elim
    (λ (e : eqb (start + size * b + size) f.base ≡ true).
    let some : 0 < size + f.len = omega arith in
    let k : size + f.len ≡ f.len + size * 1 = omega arith in
    let s : starts_block start size (record { base = start + size * b; len = size + f.len }) ≡ true = starts start size b (size + f.len) some in
    let two = and_parts _ _ h in
    let one = and_parts _ _ two.0 in
    let even : f.len % size ≡ 0 = eqb-true (f.len % size) 0 one.1 in
    let m : (size + f.len) % size ≡ 0 = ap (λ y. y % size) k ∙ add-mul-mod_self_left f.len size 1 ∙ even in
    rw e (and_from _ _ (and_from _ _ s (zero_is ((size + f.len) % size) m)) two.1))
    (λ (e : eqb (start + size * b + size) f.base ≡ false).
    rw e (and_from _ _ (and_from _ _ (starts start size b size z) (zero_is (size % size) (mod_self size))) h))
    (cases_Bool (eqb (start + size * b + size) f.base))

pub iovs-whole : (start size : ℕ) (bs : List ℕ) (n : ℕ) → 0 < size → n ≤ size * length bs → size * length bs < n + size → are_whole start size (iovs_along start size bs n) ≡ true
unfolding iovs_along merged
iovs-whole start size [] n z h l = refl
iovs-whole start size (b ∷ []) n z h l =
    let m : min size n ≡ n = omega arith in
    ap (λ y. are_whole start size (record { base = start + size * b; len = y } ∷ [])) m ∙ starts start size b n (omega arith)
iovs-whole start size (b ∷ c ∷ bs) n z h l =
    let k : size * length (b ∷ c ∷ bs) ≡ size + (size + size * length bs) = omega arith in
    let j : size * length (c ∷ bs) ≡ size + size * length bs = omega arith in
    let m : min size n ≡ size = omega arith in
    ap (λ y. are_whole start size (merged (record { base = start + size * b; len = y }) (iovs_along start size (c ∷ bs) (n - size)))) m
    ∙ whole-merged start size b (iovs_along start size (c ∷ bs) (n - size)) z (iovs-whole start size (c ∷ bs) (n - size) z (omega arith) (omega arith))

-- ==== the blocks are taken

pub can_take-home : (size : ℕ) (area : List (Option (List ℕ))) (bs : List ℕ) → Differ bs → Every (IsHome size area) bs → can_take area bs ≡ true
can_take-home size area [] d e = refl
can_take-home size area (b ∷ bs) d e =
    let i = e.0 in
    and_from _ _ (ap is_home i.1) (can_take-home size (set area b None) bs d.1 (here-other size area b None bs d.0 e.1))

-- the parts have what stands along the blocks
pub gathered-taken : (size : ℕ) (area : List (Option (List ℕ))) (bs : List ℕ) → Differ bs → Every (IsHome size area) bs → gathered (taken area bs) ≡ bytes_along size area bs
gathered-taken size area [] d e = refl
gathered-taken size area (b ∷ bs) d e =
    let i = e.0 in
    let block : List ℕ = i.0 in
    let t : gathered (taken (set area b None) bs) ≡ bytes_along size area bs =
    gathered-taken size (set area b None) bs d.1 (here-other size area b None bs d.0 e.1) ∙ along-same size area (set area b None) bs (set-leaves area b None bs d.0) in
    ap (λ (o : Option (Option (List ℕ))). unwrap_or (home o) [] ++ gathered (taken (set area b None) bs)) i.1 ∙ ap (λ xs. block ++ xs) t
    ∙ sym (ap (λ (o : Option (Option (List ℕ))). block_bytes size (home o) ++ bytes_along size area bs) i.1)

pub sizes-taken : (size : ℕ) (area : List (Option (List ℕ))) (bs : List ℕ) → Differ bs → Every (IsHome size area) bs → HaveSize size (taken area bs)
sizes-taken size area [] d e = tt
sizes-taken size area (b ∷ bs) d e =
    let i = e.0 in
    (ap (λ (o : Option (Option (List ℕ))). length (unwrap_or (home o) [])) i.1 ∙ i.2, sizes-taken size (set area b None) bs d.1 (here-other size area b None bs d.0 e.1))

-- other blocks stay
pub without-other : (area : List (Option (List ℕ))) (bs : List ℕ) (b : ℕ) → is_among bs b ≡ false → slice_get (without area bs) b ≡ slice_get area b
without-other area [] b h = refl
without-other area (c ∷ bs) b h =
    let q = or_parts (eqb c b) (is_among bs b) h in
    without-other (set area c None) bs b q.1 ∙ get-set_other area c b None (eqb-false c b q.0)

-- these are lent
pub without-lent : (size : ℕ) (area : List (Option (List ℕ))) (bs : List ℕ) → Differ bs → Every (IsHome size area) bs → Every (IsLent (without area bs)) bs
without-lent size area [] d e = tt
without-lent size area (b ∷ bs) d e =
    let i = e.0 in (
      without-other (set area b None) bs b d.0 ∙ get-set_same area b None (Some i.0) i.1,
      without-lent size (set area b None) bs d.1 (here-other size area b None bs d.0 e.1),
    )
