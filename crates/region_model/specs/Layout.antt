-- The bytes of a region: its mailbox, the entries of its command ring, and a response in an entry (the kernel's tcmu-design).
-- Numbers stand with their lowest byte first. An offset in a region counts from the region's start, an offset in the ring from
-- the ring's.
use Rattle.std.specs.Prelude.{ℕ, ◌+◌, ◌-◌, ◌*◌, max, List, [], ◌∷◌, ◌++◌, length, Option, Some, None, unwrap_or, if◌then◌else◌}
use Rattle.std.specs.Option.{is_some}
use Rattle.tcmu_types.specs.Data.{SenseData, ReplyData}
use Rattle.tcmu_types.specs.SenseBytes.{fixed_sense}
use Rattle.tcmu_types.specs.declared.settings.Flags.{Flags}
use Rattle.tcmu_types.specs.declared.iovec.Iov.{Iov}
use Rattle.tcmu_model.specs.Lengths.{round_up, tmr_length}
use Rattle.region_model.specs.declared.mailbox.Mailbox.{Mailbox}
use Rattle.tcmu_types.specs.ByteFields.{le, padded, put}
use Rattle.tcmu_types.specs.Overwriting.{zeros}

-- ==== numbers and bytes

-- ==== places

abbrev pub ring_start : ℕ
ring_start = 128

-- the data area begins at the next multiple of 4096 behind the ring, whose size is one
abbrev pub data_start : ℕ → ℕ
data_start ring = 4096 + ring

abbrev pub head_place : ℕ
head_place = 12

abbrev pub tail_place : ℕ
tail_place = 64

-- ==== the mailbox

abbrev pub flag_bits : Flags → ℕ
flag_bits f = (if f.ooo then 1 else 0) + (if f.read_len then 2 else 0) + (if f.tmr then 4 else 0)

-- the mailbox of a device with these flags, this ring size, and head and tail here
abbrev pub device_mailbox : Flags → ℕ → ℕ → ℕ → Mailbox
device_mailbox flags ring head tail =
    record { version = 2; flags = flag_bits flags; cmdr_off = ring_start; cmdr_size = ring; head = head; tail = tail }

-- its 128 bytes
unfoldable pub mailbox_bytes : Mailbox → List ℕ
mailbox_bytes m =
    le 2 m.version ++ le 2 m.flags ++ le 4 m.cmdr_off ++ le 4 m.cmdr_size ++ le 4 m.head ++ zeros 48 ++ le 4 m.tail ++ zeros 60

-- ==== entries

-- the length with the opcode in its low three bits, the command's id, and no flags
unfoldable pub entry_header : ℕ → ℕ → ℕ → List ℕ
entry_header op len id = le 4 (len + op) ++ le 2 id ++ zeros 2

unfoldable pub pad_bytes : ℕ → List ℕ
pad_bytes len = entry_header 0 len 0 ++ zeros (len - 8)

abbrev pub iov_bytes : Iov → List ℕ
iov_bytes iov = le 8 iov.base ++ le 8 iov.len

abbrev pub iovs_bytes : List Iov → List ℕ
iovs_bytes [] = []
iovs_bytes (iov ∷ iovs) = iov_bytes iov ++ iovs_bytes iovs

-- where the command descriptor block stands in an entry with so many slots for iovecs
abbrev pub cdb_place : ℕ → ℕ
cdb_place slots = max 112 (48 + 16 * slots)

-- how long the entry is with so many bytes of it
abbrev pub command_length : ℕ → ℕ → ℕ
command_length slots cdb = cdb_place slots + round_up cdb

-- the first 48 bytes: header, the three counts, of which only that of the iovecs may be above 0, and the block's region offset
unfoldable pub command_head : ℕ → ℕ → ℕ → ℕ → List ℕ
command_head len id count cdb_off = entry_header 1 len id ++ le 4 count ++ le 4 0 ++ le 4 0 ++ zeros 4 ++ le 8 cdb_off ++ zeros 16

-- a command's entry at a ring offset: its head, the iovecs in the first slots, and the command descriptor block behind all slots
unfoldable pub command_bytes : ℕ → ℕ → ℕ → List Iov → List ℕ → List ℕ
command_bytes at id slots iovs cdb =
    padded (cdb_place slots) (command_head (command_length slots (length cdb)) id (length iovs) (ring_start + at + cdb_place slots) ++ iovs_bytes iovs)
    ++ padded (round_up (length cdb)) cdb

abbrev pub ids_bytes : List ℕ → List ℕ
ids_bytes [] = []
ids_bytes (id ∷ ids) = le 2 id ++ ids_bytes ids

-- a task management entry: its type, and the ids that it names
unfoldable pub tmr_bytes : ℕ → List ℕ → List ℕ
tmr_bytes kind ids =
    padded (tmr_length (length ids)) (entry_header 2 (tmr_length (length ids)) 0 ++ le 1 kind ++ zeros 3 ++ le 4 (length ids) ++ zeros 16 ++ ids_bytes ids)

-- ==== responses

-- the flag that a length comes with the response
abbrev pub length_flag : Option ℕ → ℕ
length_flag read_len = if is_some read_len then 2 else 0

abbrev pub sense_buffer : Option SenseData → List ℕ
sense_buffer None = []
sense_buffer (Some sense) = fixed_sense sense

-- bytes 7 to 111 of an entry with a response; the sense buffer is its last 96 bytes
unfoldable pub answer_bytes : ℕ → ℕ → ℕ → List ℕ → List ℕ
answer_bytes uflags status read_len sense = le 1 uflags ++ le 1 status ++ zeros 3 ++ le 4 read_len ++ padded 96 sense

-- those of a reply, with the length that it tells
abbrev pub response_bytes : ReplyData → Option ℕ → List ℕ
response_bytes reply read_len = answer_bytes (length_flag read_len) reply.status (unwrap_or read_len 0) (sense_buffer reply.sense)

-- the front of a region with a response written over the entry at a ring offset: its id, and bytes 7 to 111
abbrev pub with_response : List ℕ → ℕ → ℕ → ReplyData → Option ℕ → List ℕ
with_response front at id reply read_len =
    put (put front (ring_start + at + 4) (le 2 id)) (ring_start + at + 7) (response_bytes reply read_len)
