use Rattle.std.proofs.Common.{◌≡◌, ℕ, ◌-◌, ◌≤◌, ◌∙◌, ap, arith, refl, List, [], ◌∷◌, length, drop, take, ◌++◌, min}
use Rattle.std.proofs.lemmas.List.{take-append-drop, length-take, length-drop}
use Rattle.tcmu_types.specs.ByteFields.{put}
use Rattle.tcmu_types.proofs.ByteFields.{length-put, take-put}
use Rattle.region_model.specs.Iovecs.{scattered, gathered, room_of}
use Rattle.iovec_scatter.proofs.Steps.{first_part}
use Rattle.iovec_scatter.proofs.laws.gathers_again.Goals as goal

law : (parts : List (List ℕ)) (bytes : List ℕ) → length bytes ≤ room_of parts → take (length bytes) (gathered (scattered parts bytes)) ≡ bytes
law [] [] h = refl
law [] (byte ∷ bytes) h = absurd (omega arith)
law (block ∷ parts) bytes h =
    let fill : length (take (length block) bytes) ≡ min (length block) (length bytes) = length-take (length block) bytes in
    let whole : length (put block 0 (take (length block) bytes)) ≡ length block = length-put block 0 (take (length block) bytes) (omega arith) in
    let left : length (drop (length block) bytes) ≡ length bytes - length block = length-drop (length block) bytes in
    let rest : take (length (drop (length block) bytes)) (gathered (scattered parts (drop (length block) bytes))) ≡ drop (length block) bytes = law parts (drop (length block) bytes) (omega arith) in
    first_part (length bytes) (min (length block) (length bytes)) (length (drop (length block) bytes)) (put block 0 (take (length block) bytes)) (gathered (scattered parts (drop (length block) bytes))) (omega arith) (omega arith)
    ∙ ap (λ (w : List ℕ). w ++ take (length (drop (length block) bytes)) (gathered (scattered parts (drop (length block) bytes)))) (take-put block 0 (take (length block) bytes) (min (length block) (length bytes)) (omega arith) (omega arith))
    ∙ ap (λ (w : List ℕ). take (length block) bytes ++ w) rest
    ∙ take-append-drop (length block) bytes

pub returns : goal.returns
returns c = law
