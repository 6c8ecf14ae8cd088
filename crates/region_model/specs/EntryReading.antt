-- What bytes read as an entry of the command ring say, and what may be wrong with them.
use Rattle.std.specs.Prelude.{◌≡◌, ◌≢◌, ◌⊎◌, ℕ, zero, suc, ◌+◌, ◌-◌, ◌*◌, ◌%◌, ◌≤◌, ◌<◌, ◌&&◌, ◌==◌, not, nat_lt, nat_le, Bool, List, take, drop, slice_index, Option, Some, None, Result, Ok, Err, MatchResult, if◌then◌else◌}
use Rattle.tcmu_types.specs.Rules.{group_length}
use Rattle.tcmu_types.specs.declared.iovec.Iov.{Iov}
use Rattle.region_model.specs.Layout.{ring_start, data_start}
use Rattle.tcmu_types.specs.ByteFields.{field}
use Rattle.region_model.specs.declared.mailbox.Mailbox.{Mailbox}
use Rattle.region_model.specs.declared.entry.EntryRef.{EntryRef}
use Rattle.region_model.specs.declared.entry.EntryRef.TheVariants.{Pad, Cmd, Tmr, Unknown}
use Rattle.region_model.specs.declared.entry.EntryFault.{EntryFault}
use Rattle.region_model.specs.declared.entry.EntryFault.TheVariants.{BadLength, PastEnd, BadCount, CdbOutside, IovOutside}
use Rattle.region_model.specs.declared.entry.Response.{Response}

-- ==== fields of the entry that begins at byte b of a front

abbrev pub op_at : List ℕ → ℕ → ℕ
op_at front b = field 4 b front % 8

abbrev pub len_at : List ℕ → ℕ → ℕ
len_at front b = field 4 b front - field 4 b front % 8

abbrev pub id_at : List ℕ → ℕ → ℕ
id_at front b = field 2 (b + 4) front

abbrev pub iov_cnt_at : List ℕ → ℕ → ℕ
iov_cnt_at front b = field 4 (b + 8) front

abbrev pub bidi_cnt_at : List ℕ → ℕ → ℕ
bidi_cnt_at front b = field 4 (b + 12) front

abbrev pub dif_cnt_at : List ℕ → ℕ → ℕ
dif_cnt_at front b = field 4 (b + 16) front

abbrev pub cdb_off_at : List ℕ → ℕ → ℕ
cdb_off_at front b = field 8 (b + 24) front

unfoldable pub iov_at : List ℕ → ℕ → ℕ → Iov
iov_at front b index = record { base = field 8 (b + 48 + 16 * index) front; len = field 8 (b + 56 + 16 * index) front }

abbrev pub kind_at : List ℕ → ℕ → ℕ
kind_at front b = field 1 (b + 8) front

abbrev pub id_cnt_at : List ℕ → ℕ → ℕ
id_cnt_at front b = field 4 (b + 12) front

unfoldable pub tmr_id_at : List ℕ → ℕ → ℕ → ℕ
tmr_id_at front b index = field 2 (b + 32 + 2 * index) front

unfoldable pub response_at : List ℕ → ℕ → Response
response_at front b = record {
  id = id_at front b;
  uflags = field 1 (b + 7) front;
  status = field 1 (b + 8) front;
  read_len = field 4 (b + 12) front;
  sense = take 96 (drop (b + 16) front);
}

-- ==== the first fault

-- an iovec lies inside the bytes from low up to high
abbrev pub lies_inside : ℕ → ℕ → Iov → Bool
lies_inside low high iov = nat_le low iov.base && nat_le (iov.base + iov.len) high

-- the first of n iovecs, from an index on, that does not lie inside the data area
unfoldable pub first_outside : List ℕ → ℕ → ℕ → ℕ → ℕ → ℕ → Option ℕ
first_outside front b low high index zero = None
first_outside front b low high index (suc n) =
    if lies_inside low high (iov_at front b index) then first_outside front b low high (index + 1) n else Some index

-- the command descriptor block at byte off, where it lies in the bytes from low up to high
unfoldable pub cdb_at : List ℕ → ℕ → ℕ → ℕ → Option (List ℕ)
cdb_at front low high off =
    if nat_le low off && nat_lt off high
    then (if nat_le (off + group_length (slice_index front off)) high then Some (take (group_length (slice_index front off)) (drop off front)) else None)
    else None

abbrev pub where_outside : EntryRef → Option ℕ → Result EntryRef EntryFault
where_outside entry None = Ok entry
where_outside entry (Some index) = Err (IovOutside index)

abbrev pub with_cdb : List ℕ → ℕ → ℕ → ℕ → ℕ → Option (List ℕ) → Result EntryRef EntryFault
with_cdb front area start b len None = Err (CdbOutside (cdb_off_at front b))
with_cdb front area start b len (Some cdb) =
    where_outside (Cmd len (id_at front b) (iov_cnt_at front b) cdb) (first_outside front b start (start + area) 0 (iov_cnt_at front b))

-- a command's entry of a length at byte b; the data area has `area` bytes from byte `start` on
unfoldable pub command_read : List ℕ → ℕ → ℕ → ℕ → ℕ → Result EntryRef EntryFault
command_read front area start b len =
    if nat_le len (48 + 16 * iov_cnt_at front b) then Err (BadCount (iov_cnt_at front b))
    else (if not (bidi_cnt_at front b == 0) then Err (BadCount (bidi_cnt_at front b))
    else (if not (dif_cnt_at front b == 0) then Err (BadCount (dif_cnt_at front b))
    else with_cdb front area start b len (cdb_at front (b + 48 + 16 * iov_cnt_at front b) (b + len) (cdb_off_at front b))))

-- a task management entry of a length at byte b
unfoldable pub tmr_read : List ℕ → ℕ → ℕ → Result EntryRef EntryFault
tmr_read front b len =
    if nat_lt len (32 + 2 * id_cnt_at front b) then Err (BadCount (id_cnt_at front b)) else Ok (Tmr len (kind_at front b) (id_cnt_at front b))

-- how far an entry at a ring offset may reach: to the head where that is above it, else to the ring's end
unfoldable pub limit_of : Mailbox → ℕ → ℕ
limit_of m at = if nat_lt at m.head then m.head - at else m.cmdr_size - at

-- the least length of an opcode's entries
unfoldable pub least_of : ℕ → ℕ
least_of op = if op == 1 then 112 else (if op == 2 then 32 else 8)

-- an entry of this opcode and length at byte b
unfoldable pub kind_read : List ℕ → ℕ → ℕ → ℕ → ℕ → ℕ → Result EntryRef EntryFault
kind_read front area start b op len =
    if op == 0 then Ok (Pad len)
    else (if op == 1 then command_read front area start b len
    else (if op == 2 then tmr_read front b len
    else Ok (Unknown op len)))

-- the same, behind the tests of its length
unfoldable pub sized_read : List ℕ → ℕ → Mailbox → ℕ → ℕ → ℕ → Result EntryRef EntryFault
sized_read front area m at op len =
    if nat_lt len (least_of op) then Err (BadLength len)
    else (if nat_lt (limit_of m at) len then Err (PastEnd len (limit_of m at))
    else kind_read front area (data_start m.cmdr_size) (ring_start + at) op len)

-- the entry at a ring offset, or its first fault
unfoldable pub entry_read : List ℕ → ℕ → Mailbox → ℕ → Result EntryRef EntryFault
entry_read front area m at = sized_read front area m at (op_at front (ring_start + at)) (len_at front (ring_start + at))

-- ==== each fault in words

-- an iovec lies inside a range of bytes: it begins not before the range, and ends not behind it, also where it has no byte
pub record LiesInside (low high : ℕ) (iov : Iov) : Type 0 where
  pub starts : low ≤ iov.base
  pub ends : iov.base + iov.len ≤ high

-- the command descriptor block at byte off has a first byte in the bytes from low up to high, and ends there too
pub record CdbInside (front : List ℕ) (low high off : ℕ) : Type 0 where
  pub starts : low ≤ off
  pub some : off < high
  pub ends : off + group_length (slice_index front off) ≤ high

-- a count of a command's entry at byte b that breaks a rule: that of its iovecs leaves no byte behind them, or else one of the
-- other two is not 0
abbrev pub BreaksCounts : List ℕ → ℕ → ℕ → Type 0
BreaksCounts front b n =
    ((n ≡ iov_cnt_at front b) × (len_at front b ≤ 48 + 16 * n))
    ⊎ (48 + 16 * iov_cnt_at front b < len_at front b) × (n ≢ 0) × ((n ≡ bidi_cnt_at front b) ⊎ ((bidi_cnt_at front b ≡ 0) × (n ≡ dif_cnt_at front b)))

-- the rule of this fault is broken, by the number that the fault has; the entry stands at a ring offset
abbrev pub BreaksEntry : List ℕ → ℕ → Mailbox → ℕ → EntryFault → Type 0
BreaksEntry front area m at (BadLength len) = (len ≡ len_at front (ring_start + at)) × (len < least_of (op_at front (ring_start + at)))
BreaksEntry front area m at (PastEnd len limit) = (len ≡ len_at front (ring_start + at)) × (limit ≡ limit_of m at) × (limit < len)
BreaksEntry front area m at (BadCount n) =
    let b = ring_start + at in
    ((op_at front b ≡ 1) × BreaksCounts front b n) ⊎ ((op_at front b ≡ 2) × (n ≡ id_cnt_at front b) × (len_at front b < 32 + 2 * n))
BreaksEntry front area m at (CdbOutside off) =
    let b = ring_start + at in
    (op_at front b ≡ 1) × (off ≡ cdb_off_at front b) × ¬ CdbInside front (b + 48 + 16 * iov_cnt_at front b) (b + len_at front b) off
BreaksEntry front area m at (IovOutside i) =
    let b = ring_start + at in
    let Inside = LiesInside (data_start m.cmdr_size) (data_start m.cmdr_size + area) in
    (op_at front b ≡ 1) × (i < iov_cnt_at front b) × ¬ Inside (iov_at front b i) × ((k : ℕ) → k < i → Inside (iov_at front b k))

-- the order of the rules
abbrev pub entry_rank : EntryFault → ℕ
entry_rank (BadLength len) = 0
entry_rank (PastEnd len limit) = 1
entry_rank (BadCount n) = 2
entry_rank (CdbOutside off) = 3
entry_rank (IovOutside i) = 4

-- a rule is broken, and none before it
pub record IsFirstEntryFault (front : List ℕ) (area : ℕ) (m : Mailbox) (at : ℕ) (fault : EntryFault) : Type 0 where
  pub broken : BreaksEntry front area m at fault
  pub first : (other : EntryFault) → BreaksEntry front area m at other → entry_rank fault ≤ entry_rank other

-- the entry says this, and lies within its bounds
abbrev pub SaysEntry : List ℕ → ℕ → EntryRef → Type 0
SaysEntry front b (Pad len) = (op_at front b ≡ 0) × (len ≡ len_at front b)
SaysEntry front b (Cmd len id iov_cnt cdb) =
    (op_at front b ≡ 1) × (len ≡ len_at front b) × (id ≡ id_at front b) × (iov_cnt ≡ iov_cnt_at front b)
    × (cdb ≡ take (group_length (slice_index front (cdb_off_at front b))) (drop (cdb_off_at front b) front))
SaysEntry front b (Tmr len kind count) = (op_at front b ≡ 2) × (len ≡ len_at front b) × (kind ≡ kind_at front b) × (count ≡ id_cnt_at front b)
SaysEntry front b (Unknown op len) = (op ≡ op_at front b) × (2 < op) × (len ≡ len_at front b)

-- the entry exactly where no rule is broken, else the first fault
abbrev pub ReadsEntry : List ℕ → ℕ → Mailbox → ℕ → Result EntryRef EntryFault → Type 0
ReadsEntry front area m at result =
    MatchResult result
    (λ entry. SaysEntry front (ring_start + at) entry × ((fault : EntryFault) → ¬ BreaksEntry front area m at fault))
    (λ fault. IsFirstEntryFault front area m at fault)

-- the bounds of an entry that was accepted at a ring offset
abbrev pub KeepsBounds : List ℕ → ℕ → Mailbox → ℕ → EntryRef → Type 0
KeepsBounds front area m at (Pad len) = (8 ≤ len) × (len ≤ limit_of m at)
KeepsBounds front area m at (Cmd len id iov_cnt cdb) =
    (112 ≤ len) × (len ≤ limit_of m at) × (48 + 16 * iov_cnt < len)
    × ((k : ℕ) → k < iov_cnt → LiesInside (data_start m.cmdr_size) (data_start m.cmdr_size + area) (iov_at front (ring_start + at) k))
KeepsBounds front area m at (Tmr len kind count) = (32 ≤ len) × (len ≤ limit_of m at) × (32 + 2 * count ≤ len)
KeepsBounds front area m at (Unknown op len) = (8 ≤ len) × (len ≤ limit_of m at)
