-- One step along blocks.
use Rattle.std.proofs.Common.{◌≡◌, ℕ, ◌+◌, ◌-◌, ◌<◌, ◌≤◌, List, ◌∷◌, ◌++◌, length, drop, take, get_or, min, ap, ◌∙◌, sym, arith, add-one, append_assoc, [], refl, ⊎_elim}
use Rattle.std.proofs.Math.Seq.{drop-cons, take-append-add}
use Rattle.std.proofs.lemmas.List.{length-take, take_all, take-append-le, append-nil}
use Rattle.std.proofs.lemmas.Bool.{cases_lt}
use Rattle.tcmu_types.specs.ByteFields.{put}
use Rattle.tcmu_types.proofs.ByteFields.{take-put, length-put}
use Rattle.region_model.specs.Iovecs.{scattered, gathered, room_of}

-- what is left of a list, one item on
pub rest_of : {X : Type 0} (items : List X) (i : ℕ) (d : X) → i < length items → drop i items ≡ get_or items i d ∷ drop (i + 1) items
rest_of items i d h = drop-cons items i d h ∙ ap (λ (m : ℕ). get_or items i d ∷ drop m items) (sym (add-one i))

-- the front of two lists joined
pub first_part : (n count left : ℕ) (block rest : List ℕ) → count ≡ min (length block) n → left ≡ n - count
    → take n (block ++ rest) ≡ take count block ++ take left rest
first_part n count left block rest most is =
    ⊎_elim
    (λ (small : n < length block).
    let whole : count ≡ n = omega arith in
    let none : left ≡ 0 = omega arith in
    take-append-le n block rest (omega arith)
    ∙ ap (λ (m : ℕ). take m block) (sym whole)
    ∙ sym (append-nil (take count block))
    ∙ ap (λ (m : ℕ). take count block ++ take m rest) (sym none))
    (λ (large : length block ≤ n).
    let whole : count ≡ length block = omega arith in
    let more : n ≡ length block + left = omega arith in
    ap (λ (m : ℕ). take m (block ++ rest)) more
    ∙ take-append-add block rest left
    ∙ ap (λ (w : List ℕ). w ++ take left rest) (sym (take_all count block (omega arith))))
    (cases_lt n (length block))

-- one block more of a gather
pub gather_step : (items : List (List ℕ)) (i done count total : ℕ) (block into new : List ℕ) (d : List ℕ)
    → i < length items → block ≡ get_or items i d → done ≤ length into → count ≡ min (length block) (total - done) → done ≤ total
    → new ≡ put into done (take count block)
    → take (done + count) new ++ take (total - (done + count)) (gathered (drop (i + 1) items)) ≡ take done into ++ take (total - done) (gathered (drop i items))
gather_step items i done count total block into new d h is inside most under written =
    let rest = gathered (drop (i + 1) items) in
    let fill : length (take count block) ≡ count = length-take count block ∙ omega arith in
    let front : take (done + count) new ≡ take done into ++ take count block =
    ap (take (done + count)) written ∙ take-put into done (take count block) (done + count) (omega arith) (omega arith) in
    let both : gathered (drop i items) ≡ block ++ rest = ap gathered (rest_of items i d h) ∙ ap (λ (b : List ℕ). b ++ rest) (sym is) in
    let cut : take (total - done) (block ++ rest) ≡ take count block ++ take (total - (done + count)) rest =
    first_part (total - done) count (total - (done + count)) block rest most (omega arith) in
    ap (λ (w : List ℕ). w ++ take (total - (done + count)) rest) front
    ∙ append_assoc (take done into) (take count block) (take (total - (done + count)) rest)
    ∙ ap (λ (w : List ℕ). take done into ++ w) (sym cut)
    ∙ ap (λ (w : List ℕ). take done into ++ take (total - done) w) (sym both)

-- blocks keep their lengths
pub room-scattered : (parts : List (List ℕ)) (bytes : List ℕ) → room_of (scattered parts bytes) ≡ room_of parts
room-scattered [] bytes = refl
room-scattered (block ∷ parts) bytes =
    ap (λ (n : ℕ). n + room_of (scattered parts (drop (length block) bytes))) (length-put block 0 (take (length block) bytes) (omega (arith, length-take (length block) bytes)))
    ∙ ap (λ (n : ℕ). length block + n) (room-scattered parts (drop (length block) bytes))
