-- A response in an entry: what it changes, and the id that is read of it.
use Rattle.std.proofs.Common.{◌≡◌, ℕ, ◌+◌, ◌-◌, ◌^◌, ◌≤◌, ◌<◌, ◌⊎◌, List, [], length, take, drop, refl, ap, ◌∙◌, arith, Option, length-drop, ⊎_elim}
use Rattle.tcmu_types.specs.Data.{CommandData, ReplyData, SettingsData}
use Rattle.region_model.specs.Layout.{ring_start, entry_header, command_head, command_bytes, response_bytes, with_response}
use Rattle.tcmu_types.specs.ByteFields.{le, put, padded}
use Rattle.tcmu_types.specs.Overwriting.{zeros}
use Rattle.tcmu_types.proofs.ByteFields.{length-le, field-put, field-before, field-le, length-put}
use Rattle.region_model.specs.Picture.{request_of, answered_entry}
use Rattle.region_model.specs.Represents.{entry_at, id_in}
use Rattle.ring_laws.proofs.Bytes.{drop-written_inside, part, part-written_before, part-written_behind}
use Rattle.ring_laws.proofs.Layouts.{take-written_inside}
use Rattle.region_model.proofs.PartLengths.{length-response}

-- ==== a response written into a ring

-- apart from its entry nothing changes
pub response_apart : (front : List ℕ) (at id : ℕ) (reply : ReplyData) (n : Option ℕ) (p l : ℕ) → ring_start + at + 112 ≤ length front → (p + l ≤ at) ⊎ (at + 112 ≤ p) →
    part (with_response front at id reply n) (ring_start + p) l ≡ part front (ring_start + p) l
response_apart front at id reply n p l h a =
    let w : List ℕ = put front (ring_start + at + 4) (le 2 id) in
    let l2 : length (le 2 id) ≡ 2 = length-le 2 id in
    let lw : length w ≡ length front = length-put front (ring_start + at + 4) (le 2 id) (omega arith) in
    let la : length (response_bytes reply n) ≡ 105 = length-response reply n in
    ⊎_elim
    (λ (k : p + l ≤ at). part-written_before w (ring_start + at + 7) (response_bytes reply n) (ring_start + p) l (omega arith) (omega arith)
    ∙ part-written_before front (ring_start + at + 4) (le 2 id) (ring_start + p) l (omega arith) (omega arith))
    (λ (k : at + 112 ≤ p). part-written_behind w (ring_start + at + 7) (response_bytes reply n) (ring_start + p) l (omega arith) (omega arith)
    ∙ part-written_behind front (ring_start + at + 4) (le 2 id) (ring_start + p) l (omega arith) (omega arith))
    a

pub length-with_response : (front : List ℕ) (at id : ℕ) (reply : ReplyData) (n : Option ℕ) → ring_start + at + 112 ≤ length front → length (with_response front at id reply n) ≡ length front
length-with_response front at id reply n h =
    let w : List ℕ = put front (ring_start + at + 4) (le 2 id) in
    let l2 : length (le 2 id) ≡ 2 = length-le 2 id in
    let lw : length w ≡ length front = length-put front (ring_start + at + 4) (le 2 id) (omega arith) in
    let la : length (response_bytes reply n) ≡ 105 = length-response reply n in
    length-put w (ring_start + at + 7) (response_bytes reply n) (omega arith) ∙ lw

-- the entry itself has it
pub response_here : (front : List ℕ) (at id : ℕ) (reply : ReplyData) (n : Option ℕ) (l : ℕ) → ring_start + at + l ≤ length front → 112 ≤ l →
    entry_at (with_response front at id reply n) at l ≡ answered_entry (entry_at front at l) id reply n
response_here front at id reply n l h m =
    let l2 : length (le 2 id) ≡ 2 = length-le 2 id in
    let la : length (response_bytes reply n) ≡ 105 = length-response reply n in
    let p : ℕ = ring_start + at in
    let w : List ℕ = put front (p + 4) (le 2 id) in
    let lw : length w ≡ length front = length-put front (p + 4) (le 2 id) (omega arith) in
    let d : List ℕ = drop p front in
    let ld : length d ≡ length front - p = length-drop p front in
    let a1 : drop p (put w (p + 7) (response_bytes reply n)) ≡ put (drop p w) 7 (response_bytes reply n) = drop-written_inside w p 7 (response_bytes reply n) (omega arith) in
    let a2 : drop p w ≡ put d 4 (le 2 id) = drop-written_inside front p 4 (le 2 id) (omega arith) in
    let lw2 : length (put d 4 (le 2 id)) ≡ length d = length-put d 4 (le 2 id) (omega arith) in
    let a3 : take l (put (put d 4 (le 2 id)) 7 (response_bytes reply n)) ≡ put (take l (put d 4 (le 2 id))) 7 (response_bytes reply n) = take-written_inside (put d 4 (le 2 id)) 7 (response_bytes reply n) l (omega arith) (omega arith) in
    let a4 : take l (put d 4 (le 2 id)) ≡ put (take l d) 4 (le 2 id) = take-written_inside d 4 (le 2 id) l (omega arith) (omega arith) in
    ap (take l) (a1 ∙ ap (λ z. put z 7 (response_bytes reply n)) a2) ∙ a3 ∙ ap (λ z. put z 7 (response_bytes reply n)) a4

pub id_of_answered : (entry : List ℕ) (id : ℕ) (reply : ReplyData) (n : Option ℕ) → 112 ≤ length entry → id < 2 ^ 16 → id_in (answered_entry entry id reply n) ≡ id
id_of_answered entry id reply n h small =
    let l2 : length (le 2 id) ≡ 2 = length-le 2 id in
    let lw : length (put entry 4 (le 2 id)) ≡ length entry = length-put entry 4 (le 2 id) (omega arith) in
    field-before 2 4 7 (put entry 4 (le 2 id)) (response_bytes reply n) (omega arith) (omega arith)
    ∙ field-put 2 4 0 4 entry (le 2 id) (omega arith) (omega arith) (omega arith)
    ∙ field-le 2 0 id [] refl small

-- a response covers the id of a request
pub answered_over : (s : SettingsData) (blocks : List ℕ) (at a b : ℕ) (c : CommandData) (reply : ReplyData) (n : Option ℕ) →
    answered_entry (request_of s blocks at a c) b reply n ≡ answered_entry (request_of s blocks at b c) b reply n
unfolding put le zeros padded entry_header command_head command_bytes
answered_over s blocks at a b c reply n = refl
