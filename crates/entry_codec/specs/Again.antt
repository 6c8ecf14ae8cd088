-- What was written is read again.
use Rattle.std.specs.Prelude.{◌≡◌, ℕ, ◌+◌, ◌^◌, ◌%◌, ◌≤◌, ◌<◌, [], ◌∷◌, List, length, Option, Ok, unwrap_or}
use Rattle.tcmu_types.specs.Data.{ReplyData}
use Rattle.tcmu_types.specs.declared.iovec.Iov.{Iov}
use Rattle.tcmu_model.specs.Lengths.{tmr_length}
use Rattle.region_model.specs.Layout.{ring_start, pad_bytes, command_length, command_bytes, tmr_bytes, length_flag, sense_buffer, with_response}
use Rattle.tcmu_types.specs.ByteFields.{put, padded}
use Rattle.region_model.specs.EntryReading.{entry_read, limit_of, iov_at, tmr_id_at, response_at}
use Rattle.region_model.specs.declared.mailbox.Mailbox.{Mailbox}
use Rattle.region_model.specs.declared.entry.EntryRef.TheVariants.{Pad, Cmd, Tmr}
use Rattle.region_model.specs.EntryWriting.{IsRequest}

-- the slots from an index on hold these iovecs
abbrev pub HoldsIovs : List ℕ → ℕ → ℕ → List Iov → Type 0
HoldsIovs front b index [] = Unit {0}
HoldsIovs front b index (iov ∷ iovs) = (iov_at front b index ≡ iov) × HoldsIovs front b (index + 1) iovs

-- ids that have their places
abbrev pub AreIds : List ℕ → Type 0
AreIds [] = Unit {0}
AreIds (id ∷ ids) = (id < 2 ^ 16) × AreIds ids

-- the places for ids from an index on hold these
abbrev pub HoldsIds : List ℕ → ℕ → ℕ → List ℕ → Type 0
HoldsIds front b index [] = Unit {0}
HoldsIds front b index (id ∷ ids) = (tmr_id_at front b index ≡ id) × HoldsIds front b (index + 1) ids

abbrev pub RequestsAgain : Type 0
RequestsAgain = (m : Mailbox) (area at id slots : ℕ) (iovs : List Iov) (cdb front : List ℕ) → IsRequest m area at id slots iovs cdb
    → ring_start + at + command_length slots (length cdb) ≤ length front
    → let new = put front (ring_start + at) (command_bytes at id slots iovs cdb) in
    (entry_read new area m at ≡ Ok (Cmd (command_length slots (length cdb)) id (length iovs) cdb)) × HoldsIovs new (ring_start + at) 0 iovs

abbrev pub PadsAgain : Type 0
PadsAgain = (m : Mailbox) (area at len : ℕ) (front : List ℕ) → 8 ≤ len → len % 8 ≡ 0 → len < 2 ^ 32 → len ≤ limit_of m at → ring_start + at + len ≤ length front
    → entry_read (put front (ring_start + at) (pad_bytes len)) area m at ≡ Ok (Pad len)

abbrev pub TmrsAgain : Type 0
TmrsAgain = (m : Mailbox) (area at kind : ℕ) (ids front : List ℕ) → kind < 2 ^ 8 → AreIds ids → tmr_length (length ids) + 2 < 2 ^ 32
    → tmr_length (length ids) ≤ limit_of m at → ring_start + at + tmr_length (length ids) ≤ length front
    → let new = put front (ring_start + at) (tmr_bytes kind ids) in
    (entry_read new area m at ≡ Ok (Tmr (tmr_length (length ids)) kind (length ids))) × HoldsIds new (ring_start + at) 0 ids

abbrev pub ResponsesAgain : Type 0
ResponsesAgain = (front : List ℕ) (at id : ℕ) (reply : ReplyData) (read_len : Option ℕ)
    → ring_start + at + 112 ≤ length front → id < 2 ^ 16 → reply.status < 2 ^ 8 → unwrap_or read_len 0 < 2 ^ 32
    → response_at (with_response front at id reply read_len) (ring_start + at) ≡ record {
      id = id;
      uflags = length_flag read_len;
      status = reply.status;
      read_len = unwrap_or read_len 0;
      sense = padded 96 (sense_buffer reply.sense);
    }
