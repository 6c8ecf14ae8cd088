-- What was written reads again.
use Rattle.std.proofs.Common.{◌≡◌, ℕ, ◌+◌, ◌-◌, ◌*◌, ◌%◌, ◌^◌, ◌<◌, ◌≤◌, List, [], ◌∷◌, ◌++◌, length, drop, take, Option, Some, None, Ok, refl, ap, ◌∙◌, sym, arith, append_assoc, length-append, cond, is_some}
use Rattle.std.specs.Prelude.{unwrap_or}
use Rattle.std.proofs.lemmas.List.{take_at, drop_at, append-nil}
use Rattle.tcmu_types.specs.Data.{ReplyData}
use Rattle.tcmu_types.specs.declared.iovec.Iov.{Iov}
use Rattle.tcmu_model.specs.Lengths.{tmr_length}
use Rattle.region_model.specs.Layout.{entry_header, command_bytes, command_length, pad_bytes, tmr_bytes, ids_bytes, answer_bytes, with_response, sense_buffer}
use Rattle.tcmu_types.specs.ByteFields.{le, put, padded, field}
use Rattle.tcmu_types.specs.Overwriting.{zeros}
use Rattle.region_model.specs.EntryReading.{iov_at, tmr_id_at, response_at, limit_of, entry_read}
use Rattle.region_model.specs.EntryWriting.{IsRequest}
use Rattle.region_model.specs.UserNext.{iovs_in}
use Rattle.region_model.specs.declared.mailbox.Mailbox.{Mailbox}
use Rattle.region_model.specs.declared.entry.EntryRef.TheVariants.{Pad, Cmd, Tmr}
use Rattle.tcmu_types.proofs.ByteFields.{lengths, length-padded, length-put, field-in, field-put, field-front, field-rest, field-before, drop-put}
use Rattle.region_model.proofs.HeaderLengths.{length-entry_header}
use Rattle.region_model.proofs.PartLengths.{length-pad, length-ids_bytes, length-note, length-request, length-sense}
use Rattle.region_model.proofs.EntriesThere.{IsThere, field_there, pad_there, request_there, note_there}
use Rattle.entry_codec.specs.Again.{HoldsIovs, AreIds, HoldsIds}

-- what was written stands where it was written
written_there : (front : List ℕ) (b : ℕ) (text : List ℕ) → b + length text ≤ length front → IsThere (put front b text) b text
written_there front b text room =
    ap (take (length text)) (drop-put front b text 0 b (omega arith) (omega arith) (omega arith)) ∙ take_at text (drop (b + length text) front) (length text) refl

pub pad_again : (m : Mailbox) (area at len : ℕ) (front : List ℕ) → 8 ≤ len → len % 8 ≡ 0 → len < 2 ^ 32 → len ≤ limit_of m at → 128 + at + len ≤ length front
    → entry_read (put front (128 + at) (pad_bytes len)) area m at ≡ Ok (Pad len)
pad_again m area at len front least aligned fits most room =
    pad_there (put front (128 + at) (pad_bytes len)) area m at len least aligned fits most
    (written_there front (128 + at) (pad_bytes len) (omega (arith, room, length-pad len least)))

-- the slots of the iovecs that are read
holds_read : (g : List ℕ) (b i : ℕ) (iovs : List Iov) → iovs_in g b i (length iovs) ≡ iovs → HoldsIovs g b i iovs
holds_read g b i [] e = tt
holds_read g b i (iov ∷ iovs) e =
    let one : iov_at g b i ≡ iov = cc in
    let more : iovs_in g b (i + 1) (length iovs) ≡ iovs = cc in
    (one, holds_read g b (i + 1) iovs more)

pub request_again : (m : Mailbox) (area at id blocks : ℕ) (iovs : List Iov) (cdb front : List ℕ) → IsRequest m area at id blocks iovs cdb
    → 128 + at + command_length blocks (length cdb) ≤ length front
    → (entry_read (put front (128 + at) (command_bytes at id blocks iovs cdb)) area m at ≡ Ok (Cmd (command_length blocks (length cdb)) id (length iovs) cdb))
    × HoldsIovs (put front (128 + at) (command_bytes at id blocks iovs cdb)) (128 + at) 0 iovs
request_again m area at id blocks iovs cdb front h room =
    let text : List ℕ = command_bytes at id blocks iovs cdb in
    let there : IsThere (put front (128 + at) text) (128 + at) text = written_there front (128 + at) text (omega (arith, room, length-request at id blocks iovs cdb h.few)) in
    let r = request_there (put front (128 + at) text) area m at id blocks iovs cdb h there in
    (r.0, holds_read (put front (128 + at) text) (128 + at) 0 iovs r.1)

uflags_fit : (read_len : Option ℕ) → cond (is_some read_len) 2 0 < 256
uflags_fit None = omega arith
uflags_fit (Some n) = omega arith

pub response_again : (front : List ℕ) (at id : ℕ) (reply : ReplyData) (read_len : Option ℕ)
    → 128 + at + 112 ≤ length front → id < 2 ^ 16 → reply.status < 2 ^ 8 → unwrap_or read_len 0 < 2 ^ 32
    → response_at (with_response front at id reply read_len) (128 + at) ≡ record {
      id = id;
      uflags = cond (is_some read_len) 2 0;
      status = reply.status;
      read_len = unwrap_or read_len 0;
      sense = padded 96 (sense_buffer reply.sense);
    }
unfolding response_at answer_bytes
response_again front at id reply read_len room h1 h2 h3 =
    let b : ℕ = 128 + at in
    let uflags : ℕ = cond (is_some read_len) 2 0 in
    let count : ℕ = unwrap_or read_len 0 in
    let sense : List ℕ = padded 96 (sense_buffer reply.sense) in
    let text : List ℕ = (((le 1 uflags ++ le 1 reply.status) ++ zeros 3) ++ le 4 count) ++ sense in
    let inner : List ℕ = put front (b + 4) (le 2 id) in
    let g : List ℕ = put inner (b + 7) text in
    let size_sense : length sense ≡ 96 = length-padded 96 (sense_buffer reply.sense) (length-sense reply.sense) in
    let size_inner : length inner ≡ length front = length-put front (b + 4) (le 2 id) (omega lengths) in
    let size : length text ≡ 105 = omega lengths in
    let f1 : field 2 (b + 4) g ≡ id =
    field-before 2 (b + 4) (b + 7) inner text (omega arith) (omega arith)
    ∙ field-put 2 (b + 4) 0 (b + 4) front (le 2 id) (omega arith) (omega lengths) (omega arith)
    ∙ field-in 2 0 id [] [] (le 2 id) (sym (append-nil (le 2 id))) refl (omega arith) in
    let f2 : field 1 (b + 7) g ≡ uflags =
    field-put 1 (b + 7) 0 (b + 7) inner text (omega arith) (omega arith) (omega arith)
    ∙ field-in 1 0 uflags [] (le 1 reply.status ++ (zeros 3 ++ (le 4 count ++ sense))) text (simp append_assoc) refl (uflags_fit read_len) in
    let f3 : field 1 (b + 8) g ≡ reply.status =
    field-put 1 (b + 8) 1 (b + 7) inner text (omega arith) (omega arith) (omega arith)
    ∙ field-in 1 1 reply.status (le 1 uflags) (zeros 3 ++ (le 4 count ++ sense)) text (simp append_assoc) (omega lengths) (omega arith) in
    let f4 : field 4 (b + 12) g ≡ count =
    field-put 4 (b + 12) 5 (b + 7) inner text (omega arith) (omega arith) (omega arith)
    ∙ field-in 4 5 count ((le 1 uflags ++ le 1 reply.status) ++ zeros 3) sense text (simp append_assoc) (omega lengths) (omega arith) in
    let behind : drop 9 text ≡ sense = drop_at (((le 1 uflags ++ le 1 reply.status) ++ zeros 3) ++ le 4 count) sense 9 (omega lengths) in
    let f5 : take 96 (drop (b + 16) g) ≡ sense =
    ap (take 96) (drop-put inner (b + 7) text 9 (b + 16) (omega arith) (omega arith) (omega arith) ∙ ap (λ (w : List ℕ). w ++ drop (b + 7 + length text) inner) behind)
    ∙ take_at sense (drop (b + 7 + length text) inner) 96 size_sense in
    rw (f1, f2, f3, f4, f5) refl

-- ==== task management

ids_again : (g : List ℕ) (b i : ℕ) (ids : List ℕ) → ((n k : ℕ) → k + n ≤ length (ids_bytes ids) → field n (b + 32 + 2 * i + k) g ≡ field n k (ids_bytes ids))
    → AreIds ids → HoldsIds g b i ids
unfolding tmr_id_at
ids_again g b i [] there fits = tt
ids_again g b i (id ∷ ids) there fits =
    let size : length (ids_bytes (id ∷ ids)) ≡ 2 + length (ids_bytes ids) = length-append (le 2 id) (ids_bytes ids) ∙ omega lengths in
    let here : field 2 (b + 32 + 2 * i) g ≡ id =
    ap (λ (k : ℕ). field 2 k g) (plus_none (b + 32 + 2 * i)) ∙ there 2 0 (omega arith)
    ∙ field-in 2 0 id [] (ids_bytes ids) (ids_bytes (id ∷ ids)) refl refl (omega (arith, fits.0)) in
    let rest : (n k : ℕ) → k + n ≤ length (ids_bytes ids) → field n (b + 32 + 2 * (i + 1) + k) g ≡ field n k (ids_bytes ids) =
    λ n k inside.
    ap (λ (p : ℕ). field n p g) (plus_slot b i k) ∙ there n (2 + k) (omega arith)
    ∙ field-rest n k (2 + k) (le 2 id) (ids_bytes ids) (omega lengths) in
    (here, ids_again g b (i + 1) ids rest fits.1)
  where
    plus_none : (n : ℕ) → n ≡ n + 0
    plus_none n = omega arith

    plus_slot : (b i k : ℕ) → b + 32 + 2 * (i + 1) + k ≡ b + 32 + 2 * i + (2 + k)
    plus_slot b i k = omega arith

pub tmr_again : (m : Mailbox) (area at kind : ℕ) (ids front : List ℕ) → kind < 2 ^ 8 → AreIds ids → tmr_length (length ids) + 2 < 2 ^ 32
    → tmr_length (length ids) ≤ limit_of m at → 128 + at + tmr_length (length ids) ≤ length front
    → (entry_read (put front (128 + at) (tmr_bytes kind ids)) area m at ≡ Ok (Tmr (tmr_length (length ids)) kind (length ids)))
    × HoldsIds (put front (128 + at) (tmr_bytes kind ids)) (128 + at) 0 ids
unfolding tmr_bytes padded
tmr_again m area at kind ids front small h_ids fits most room =
    let text : List ℕ = tmr_bytes kind ids in
    let g : List ℕ = put front (128 + at) text in
    let size : length text ≡ tmr_length (length ids) = length-note kind ids in
    let there : IsThere g (128 + at) text = written_there front (128 + at) text (omega (arith, room, size)) in
    let read = note_there g area m at kind ids fits most there in
    let head : List ℕ = (((entry_header 2 (tmr_length (length ids)) 0 ++ le 1 kind) ++ zeros 3) ++ le 4 (length ids)) ++ zeros 16 in
    let size_head : length head ≡ 32 = omega (lengths, length-entry_header 2 (tmr_length (length ids)) 0) in
    let size_slots : length (ids_bytes ids) ≡ 2 * length ids = length-ids_bytes ids in
    let size_both : length (head ++ ids_bytes ids) ≡ 32 + 2 * length ids = length-append head (ids_bytes ids) ∙ omega arith in
    let slots : (n k : ℕ) → k + n ≤ length (ids_bytes ids) → field n (128 + at + 32 + 2 * 0 + k) g ≡ field n k (ids_bytes ids) =
    λ n k inside.
    field_there g (128 + at) text n (32 + k) _ there (omega arith) (omega arith)
    ∙ field-front n (32 + k) (head ++ ids_bytes ids) (zeros (tmr_length (length ids) - length (head ++ ids_bytes ids))) (omega arith)
    ∙ field-rest n k (32 + k) head (ids_bytes ids) (omega arith) in
    (read.read ∙ ap (λ (k : ℕ). Ok (Tmr (tmr_length (length ids)) k (length ids))) (read.byte small), ids_again g (128 + at) 0 ids slots h_ids)
