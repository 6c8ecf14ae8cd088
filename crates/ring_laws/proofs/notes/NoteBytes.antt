-- The bytes of a note: how many they are, and that its ids are read as they were written.
use Rattle.std.proofs.Common.{◌≡◌, ℕ, ◌+◌, ◌-◌, ◌*◌, ◌^◌, ◌≤◌, ◌<◌, List, [], ◌∷◌, ◌++◌, length, take, drop, replicate, suc, zero, refl, sym, ap, ◌∙◌, arith, append_assoc, length-append}
use Rattle.std.proofs.lemmas.List.{drop_at, length-replicate, take_at}
use Rattle.tcmu_model.specs.Lengths.{tmr_length}
use Rattle.tcmu_types.specs.Lists.{Every}
use Rattle.region_model.specs.Layout.{entry_header, ids_bytes, tmr_bytes}
use Rattle.tcmu_types.specs.ByteFields.{field, le, padded, put}
use Rattle.tcmu_types.specs.Overwriting.{zeros}
use Rattle.region_model.specs.Represents.{ids_in}
use Rattle.tcmu_types.proofs.ByteFields.{field-in, length-le, length-zeros, lengths}
use Rattle.region_model.proofs.HeaderLengths.{length-entry_header}
use Rattle.region_model.proofs.PartLengths.{length-ids_bytes}

-- what stands before the ids
note_head : ℕ → ℕ → List ℕ
note_head kind count = entry_header 2 (tmr_length count) 0 ++ le 1 kind ++ zeros 3 ++ le 4 count ++ zeros 16

length-note_head : (kind count : ℕ) → length (note_head kind count) ≡ 32
unfolding note_head
length-note_head kind count = omega (lengths, length-entry_header 2 (tmr_length count) 0)

inside : (kind : ℕ) (ids : List ℕ) → length (note_head kind (length ids) ++ ids_bytes ids) ≤ tmr_length (length ids)
inside kind ids =
    let up : 32 + 2 * length ids ≤ tmr_length (length ids) = omega arith in
    omega (arith, up, length-append (note_head kind (length ids)) (ids_bytes ids), length-note_head kind (length ids), length-ids_bytes ids)

ids_read : (front ids rest : List ℕ) (at : ℕ) → at ≡ length front → Every (λ id. id < 2 ^ 16) ids → ids_in (length ids) at (front ++ (ids_bytes ids ++ rest)) ≡ ids
ids_read front [] rest at h small = refl
ids_read front (id ∷ ids) rest at h small =
    let whole : front ++ ((le 2 id ++ ids_bytes ids) ++ rest) ≡ (front ++ le 2 id) ++ (ids_bytes ids ++ rest) =
    ap (λ xs. front ++ xs) (append_assoc (le 2 id) (ids_bytes ids) rest) ∙ sym (append_assoc front (le 2 id) (ids_bytes ids ++ rest)) in
    let one : field 2 at (front ++ ((le 2 id ++ ids_bytes ids) ++ rest)) ≡ id = field-in 2 at id front (ids_bytes ids ++ rest) (front ++ ((le 2 id ++ ids_bytes ids) ++ rest)) whole h small.0 in
    let more : at + 2 ≡ length (front ++ le 2 id) = let l : length (front ++ le 2 id) ≡ length front + 2 = length-append front (le 2 id) ∙ ap (λ n. length front + n) (length-le 2 id) in omega arith in
    ap (λ n. n ∷ ids_in (length ids) (at + 2) (front ++ ((le 2 id ++ ids_bytes ids) ++ rest))) one
    ∙ ap (λ xs. id ∷ ids_in (length ids) (at + 2) xs) whole
    ∙ ap (λ ns. id ∷ ns) (ids_read (front ++ le 2 id) ids rest (at + 2) more small.1)

pub ids_again : (kind : ℕ) (ids : List ℕ) → Every (λ id. id < 2 ^ 16) ids → ids_in (length ids) 32 (tmr_bytes kind ids) ≡ ids
unfolding tmr_bytes note_head padded
ids_again kind ids small =
    let head : List ℕ = note_head kind (length ids) in
    let rest : List ℕ = zeros (tmr_length (length ids) - length (head ++ ids_bytes ids)) in
    ap (ids_in (length ids) 32) (append_assoc head (ids_bytes ids) rest) ∙ ids_read head ids rest 32 (sym (length-note_head kind (length ids))) small

-- ==== without its ids

zero_ids : (n : ℕ) → ids_bytes (replicate n 0) ≡ zeros (2 * n)
unfolding le zeros
zero_ids zero = refl
zero_ids (suc n) = let two : suc (suc (2 * n)) ≡ 2 * suc n = omega arith in ap (λ (xs : List ℕ). 0 ∷ 0 ∷ xs) (zero_ids n) ∙ ap zeros two

-- other bytes in the place of as many behind a front
put_between : (a b c x : List ℕ) (k : ℕ) → length a ≡ k → length b ≡ length x → put ((a ++ b) ++ c) k x ≡ (a ++ x) ++ c
unfolding put
put_between a b c x k la lb =
    let front : take k ((a ++ b) ++ c) ≡ a = ap (take k) (append_assoc a b c) ∙ take_at a (b ++ c) k la in
    let l : length (a ++ b) ≡ k + length x = length-append a b ∙ omega arith in
    let back : drop (k + length x) ((a ++ b) ++ c) ≡ c = drop_at (a ++ b) c (k + length x) l in
    ap (λ (w : List ℕ). w ++ x ++ drop (k + length x) ((a ++ b) ++ c)) front ∙ ap (λ (w : List ℕ). a ++ x ++ w) back

-- how many ids it names
count_read : (kind : ℕ) (ids : List ℕ) → length ids < 2 ^ 32 → field 4 12 (tmr_bytes kind ids) ≡ length ids
unfolding tmr_bytes note_head padded
count_read kind ids small =
    let n : ℕ = length ids in
    let front : List ℕ = entry_header 2 (tmr_length n) 0 ++ le 1 kind ++ zeros 3 in
    let rest : List ℕ = zeros (tmr_length n - length (note_head kind n ++ ids_bytes ids)) in
    field-in 4 12 n front (zeros 16 ++ (ids_bytes ids ++ rest)) _ (regroup front (le 4 n) (zeros 16) (ids_bytes ids) rest) (sym (omega (lengths, length-entry_header 2 (tmr_length n) 0))) small
  where
    regroup : (a b c d e : List ℕ) → (((a ++ b) ++ c) ++ d) ++ e ≡ (a ++ b) ++ (c ++ (d ++ e))
    regroup a b c d e = simp append_assoc

pub ids_cleared : (kind : ℕ) (ids : List ℕ) → length ids < 2 ^ 32 → put (tmr_bytes kind ids) 32 (zeros (2 * field 4 12 (tmr_bytes kind ids))) ≡ tmr_bytes kind (replicate (length ids) 0)
unfolding tmr_bytes note_head padded
ids_cleared kind ids small =
    let n : ℕ = length ids in
    let head : List ℕ = note_head kind n in
    let lh : length head ≡ 32 = length-note_head kind n in
    let li : length (ids_bytes ids) ≡ 2 * n = length-ids_bytes ids in
    let lz : length (zeros (2 * n)) ≡ 2 * n = length-zeros (2 * n) in
    let many : length (replicate n 0) ≡ n = length-replicate {A = ℕ} n 0 in
    let sum : length (head ++ ids_bytes ids) ≡ length (head ++ zeros (2 * n)) = length-append head (ids_bytes ids) ∙ ap (λ k. length head + k) (li ∙ sym lz) ∙ sym (length-append head (zeros (2 * n))) in
    ap (λ k. put (tmr_bytes kind ids) 32 (zeros (2 * k))) (count_read kind ids small)
    ∙ put_between head (ids_bytes ids) (zeros (tmr_length n - length (head ++ ids_bytes ids))) (zeros (2 * n)) 32 lh (li ∙ sym lz)
    ∙ ap (λ k. (head ++ zeros (2 * n)) ++ zeros (tmr_length n - k)) sum
    ∙ ap (λ (xs : List ℕ). (head ++ xs) ++ zeros (tmr_length n - length (head ++ xs))) (sym (zero_ids n))
    ∙ ap (λ k. (note_head kind k ++ ids_bytes (replicate n 0)) ++ zeros (tmr_length k - length (note_head kind k ++ ids_bytes (replicate n 0)))) (sym many)
