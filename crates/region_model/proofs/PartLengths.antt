-- How many bytes each part of a region has, and the mailbox's fields in its bytes.
use Rattle.std.proofs.Common.{◌≡◌, ℕ, ◌+◌, ◌-◌, ◌*◌, ◌≤◌, Bool, true, false, cond, IfSome, List, [], ◌∷◌, ◌++◌, length, refl, ◌∙◌, arith, append_assoc, length-append, ⊎_elim, eqb, Option, Some, None}
use Rattle.std.proofs.lemmas.Bool.{cases_Bool}
use Rattle.tcmu_types.specs.Data.{SenseData, ReplyData, SettingsData}
use Rattle.tcmu_types.specs.SenseBytes.{fixed_sense}
use Rattle.tcmu_types.specs.declared.iovec.Iov.{Iov}
use Rattle.region_model.specs.declared.mailbox.Mailbox.{Mailbox}
use Rattle.tcmu_types.specs.Rules.{payload_length, takes_payload}
use Rattle.tcmu_model.specs.declared.state.CommandState.{CommandState}
use Rattle.tcmu_model.specs.Device.{Unfinished}
use Rattle.tcmu_model.specs.Lengths.{tmr_length, round_up}
use Rattle.tcmu_model.specs.Sound.{ReplyFits}
use Rattle.region_model.specs.Layout.{entry_header, command_head, command_bytes, command_length, cdb_place, ring_start, mailbox_bytes, device_mailbox, data_start, pad_bytes, iovs_bytes, ids_bytes, tmr_bytes, sense_buffer, answer_bytes, response_bytes}
use Rattle.tcmu_types.specs.ByteFields.{le, field, padded}
use Rattle.tcmu_types.specs.Overwriting.{zeros}
use Rattle.region_model.specs.MailboxReading.{mailbox_in, Fits}
use Rattle.region_model.specs.Iovecs.{piece, merged, iovs_along}
use Rattle.region_model.specs.Picture.{data_in, is_placed, payload_of}
use Rattle.region_model.specs.Regions.{opening_region}
use Rattle.tcmu_types.proofs.ByteFields.{lengths, length-zeros, length-padded, field-in}
use Rattle.region_model.proofs.HeaderLengths.{length-entry_header, length-command_head}

-- ==== the mailbox

pub length-mailbox : (m : Mailbox) → length (mailbox_bytes m) ≡ 128
unfolding mailbox_bytes
length-mailbox m = omega lengths

pub mailbox_fields : (m : Mailbox) → Fits m → mailbox_in (mailbox_bytes m) ≡ m
unfolding mailbox_bytes mailbox_in
mailbox_fields m h =
    let f1 : field 2 0 (mailbox_bytes m) ≡ m.version = field-in 2 0 m.version [] (le 2 m.flags ++ le 4 m.cmdr_off ++ le 4 m.cmdr_size ++ le 4 m.head ++ zeros 48 ++ le 4 m.tail ++ zeros 60) _ (simp append_assoc) refl (omega (arith, h.version)) in
    let f2 : field 2 2 (mailbox_bytes m) ≡ m.flags = field-in 2 2 m.flags (le 2 m.version) (le 4 m.cmdr_off ++ le 4 m.cmdr_size ++ le 4 m.head ++ zeros 48 ++ le 4 m.tail ++ zeros 60) _ (simp append_assoc) (omega lengths) (omega (arith, h.flags)) in
    let f3 : field 4 4 (mailbox_bytes m) ≡ m.cmdr_off = field-in 4 4 m.cmdr_off (le 2 m.version ++ le 2 m.flags) (le 4 m.cmdr_size ++ le 4 m.head ++ zeros 48 ++ le 4 m.tail ++ zeros 60) _ (simp append_assoc) (omega lengths) (omega (arith, h.cmdr_off)) in
    let f4 : field 4 8 (mailbox_bytes m) ≡ m.cmdr_size = field-in 4 8 m.cmdr_size (le 2 m.version ++ le 2 m.flags ++ le 4 m.cmdr_off) (le 4 m.head ++ zeros 48 ++ le 4 m.tail ++ zeros 60) _ (simp append_assoc) (omega lengths) (omega (arith, h.cmdr_size)) in
    let f5 : field 4 12 (mailbox_bytes m) ≡ m.head = field-in 4 12 m.head (le 2 m.version ++ le 2 m.flags ++ le 4 m.cmdr_off ++ le 4 m.cmdr_size) (zeros 48 ++ le 4 m.tail ++ zeros 60) _ (simp append_assoc) (omega lengths) (omega (arith, h.head)) in
    let f6 : field 4 64 (mailbox_bytes m) ≡ m.tail = field-in 4 64 m.tail (le 2 m.version ++ le 2 m.flags ++ le 4 m.cmdr_off ++ le 4 m.cmdr_size ++ le 4 m.head ++ zeros 48) (zeros 60) _ (simp append_assoc) (omega lengths) (omega (arith, h.tail)) in
    rw (f1, f2, f3, f4, f5, f6) refl

pub length-opening : (s : SettingsData) → length (opening_region s).front ≡ data_start s.ring
length-opening s =
    let m : Mailbox = device_mailbox s.flags s.ring 0 0 in
    let l : length (mailbox_bytes m) ≡ 128 = length-mailbox m in
    length-padded (data_start s.ring) (mailbox_bytes m) (omega (arith, l))

-- ==== entries

pub length-pad : (n : ℕ) → 8 ≤ n → length (pad_bytes n) ≡ n
unfolding pad_bytes
length-pad n h = length-append (entry_header 0 n 0) (zeros (n - 8)) ∙ omega (arith, length-entry_header 0 n 0, length-zeros (n - 8))

pub length-iovs_bytes : (iovs : List Iov) → length (iovs_bytes iovs) ≡ 16 * length iovs
length-iovs_bytes [] = refl
length-iovs_bytes (iov ∷ iovs) =
    let rest = length-iovs_bytes iovs in
    length-append (le 8 iov.base ++ le 8 iov.len) (iovs_bytes iovs) ∙ omega lengths

pub length-ids_bytes : (ids : List ℕ) → length (ids_bytes ids) ≡ 2 * length ids
length-ids_bytes [] = refl
length-ids_bytes (id ∷ ids) =
    let rest = length-ids_bytes ids in
    length-append (le 2 id) (ids_bytes ids) ∙ omega lengths

pub length-note : (kind : ℕ) (ids : List ℕ) → length (tmr_bytes kind ids) ≡ tmr_length (length ids)
unfolding tmr_bytes
length-note kind ids =
    let n : ℕ = tmr_length (length ids) in
    let head : List ℕ = entry_header 2 n 0 ++ le 1 kind ++ zeros 3 ++ le 4 (length ids) ++ zeros 16 in
    let lh : length head ≡ 32 = omega (lengths, length-entry_header 2 n 0) in
    let la : length (head ++ ids_bytes ids) ≡ length head + length (ids_bytes ids) = length-append head (ids_bytes ids) in
    let up : 32 + 2 * length ids ≤ n = omega arith in
    length-padded n (head ++ ids_bytes ids) (omega (arith, lh, la, length-ids_bytes ids, up))

-- neighbours are joined, so there are no more iovecs than blocks
pub length-merged : (e : Iov) (es : List Iov) → length (merged e es) ≤ length es + 1
unfolding merged
length-merged e [] = omega arith
length-merged e (f ∷ fs) =
    ⊎_elim
    (λ (z : eqb (e.base + e.len) f.base ≡ true). rw z (omega arith))
    (λ (z : eqb (e.base + e.len) f.base ≡ false). rw z (omega arith))
    (cases_Bool (eqb (e.base + e.len) f.base))

pub length-iovs : (start size : ℕ) (bs : List ℕ) (n : ℕ) → length (iovs_along start size bs n) ≤ length bs
unfolding iovs_along
length-iovs start size [] n = omega arith
length-iovs start size (b ∷ bs) n = omega (arith, length-merged (piece start size b n) (iovs_along start size bs (n - size)), length-iovs start size bs (n - size))

front_long : (at id slots : ℕ) (iovs : List Iov) (cdb : List ℕ) → length iovs ≤ slots →
    length (command_head (command_length slots (length cdb)) id (length iovs) (ring_start + at + cdb_place slots) ++ iovs_bytes iovs) ≤ cdb_place slots
front_long at id slots iovs cdb h =
    let a : length (command_head (command_length slots (length cdb)) id (length iovs) (ring_start + at + cdb_place slots) ++ iovs_bytes iovs) ≡
    length (command_head (command_length slots (length cdb)) id (length iovs) (ring_start + at + cdb_place slots)) + length (iovs_bytes iovs) =
    length-append (command_head (command_length slots (length cdb)) id (length iovs) (ring_start + at + cdb_place slots)) (iovs_bytes iovs) in
    let b : length (command_head (command_length slots (length cdb)) id (length iovs) (ring_start + at + cdb_place slots)) ≡ 48 = length-command_head (command_length slots (length cdb)) id (length iovs) (ring_start + at + cdb_place slots) in
    let c : length (iovs_bytes iovs) ≡ 16 * length iovs = length-iovs_bytes iovs in
    let big : 48 + 16 * slots ≤ cdb_place slots = omega arith in
    omega (arith, a, b, c, big, h)

pub length-request : (at id slots : ℕ) (iovs : List Iov) (cdb : List ℕ) → length iovs ≤ slots → length (command_bytes at id slots iovs cdb) ≡ cdb_place slots + round_up (length cdb)
unfolding command_bytes
length-request at id slots iovs cdb h =
    let f : List ℕ = command_head (command_length slots (length cdb)) id (length iovs) (ring_start + at + cdb_place slots) ++ iovs_bytes iovs in
    let a : length (padded (cdb_place slots) f) ≡ cdb_place slots = length-padded (cdb_place slots) f (front_long at id slots iovs cdb h) in
    let up : length cdb ≤ round_up (length cdb) = omega arith in
    let b : length (padded (round_up (length cdb)) cdb) ≡ round_up (length cdb) = length-padded (round_up (length cdb)) cdb up in
    length-append (padded (cdb_place slots) f) (padded (round_up (length cdb)) cdb) ∙ omega (arith, a, b)

-- ==== answers

pub length-sense : (s : Option SenseData) → length (sense_buffer s) ≤ 96
length-sense None = omega arith
length-sense (Some s) = let k : ◌≡◌ {A = ℕ} (length (fixed_sense s)) 18 = refl in omega (arith, k)

pub length-response : (reply : ReplyData) (n : Option ℕ) → length (response_bytes reply n) ≡ 105
unfolding answer_bytes
length-response reply n =
    let s : length (padded 96 (sense_buffer reply.sense)) ≡ 96 = length-padded 96 (sense_buffer reply.sense) (length-sense reply.sense) in
    omega (lengths, s)

-- ==== payloads

length-data_in : (n : ℕ) (state : CommandState) (o : Option ReplyData) → IfSome o (λ r. length r.payload ≤ n) → length (data_in n state o) ≡ n
length-data_in n state None h = length-zeros n
length-data_in n state (Some reply) h = by_state (is_placed state)
  where
    by_state : (b : Bool) → length (cond b (reply.payload ++ zeros (n - length reply.payload)) (zeros n)) ≡ n
    by_state true = length-append reply.payload (zeros (n - length reply.payload)) ∙ omega (arith, length-zeros (n - length reply.payload))
    by_state false = length-zeros n

pub length-payload : (u : Unfinished) → IfSome u.reply (ReplyFits u.command) → length (payload_of u) ≡ payload_length u.command
length-payload u h =
    ⊎_elim
    (λ (t : takes_payload u.command.cdb ≡ true). rw t refl)
    (λ (t : takes_payload u.command.cdb ≡ false). rw t (length-data_in u.command.in_len u.state u.reply (shorter u.reply h)))
    (cases_Bool (takes_payload u.command.cdb))
  where
    shorter : (o : Option ReplyData) → IfSome o (ReplyFits u.command) → IfSome o (λ r. length r.payload ≤ u.command.in_len)
    shorter None k = tt
    shorter (Some reply) k = k.payload
