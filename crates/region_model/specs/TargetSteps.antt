-- What the calls of the target do but for clean and reset: what each answers, and what it makes of the target's state and of the
-- region. Each is a function of the target's state and the region alone, over any bytes.
use Rattle.std.specs.Prelude.{ℕ, ◌+◌, ◌-◌, ◌*◌, ◌/◌, ◌%◌, ◌==◌, ◌&&◌, not, nat_lt, nat_le, Bool, true, false, List, [], ◌∷◌, ◌++◌, length, map, Option, Some, None, if◌then◌else◌}
use Rattle.std.specs.List.{sum_by, filter, list_any, flat_map}
use Rattle.tcmu_types.specs.Data.{CommandData, SenseData, DoneData, SettingsData}
use Rattle.tcmu_types.specs.Rules.{takes_payload}
use Rattle.tcmu_types.specs.declared.dump.ItemKind.{ItemKind}
use Rattle.tcmu_types.specs.declared.dump.ItemKind.TheVariants as kind
use Rattle.tcmu_types.specs.declared.answer.Submit.{Submit}
use Rattle.tcmu_types.specs.declared.answer.Submit.TheVariants as submit
use Rattle.tcmu_types.specs.declared.answer.Enter.{Enter}
use Rattle.tcmu_types.specs.declared.answer.Enter.TheVariants as enter
use Rattle.tcmu_types.specs.declared.answer.Tmr.{Tmr}
use Rattle.tcmu_types.specs.declared.answer.Tmr.TheVariants as tmr
use Rattle.tcmu_types.specs.Lists.{first_of}
use Rattle.tcmu_types.specs.Numbers.{above_all}
use Rattle.tcmu_model.specs.Lengths.{blocks_of, block_size, entry_length, tmr_length}
use Rattle.tcmu_model.specs.Device.{Delayed}
use Rattle.tcmu_model.specs.Events.{later, has_left, departure, ending}
use Rattle.tcmu_model.specs.BlockLists.{least_free}
use Rattle.region_model.specs.Layout.{ring_start, head_place, pad_bytes, tmr_bytes}
use Rattle.tcmu_types.specs.ByteFields.{le, put}
use Rattle.tcmu_types.specs.Overwriting.{zeros}
use Rattle.region_model.specs.Regions.{RegionState, size_of, grown_to}
use Rattle.region_model.specs.Pending.{PendingData}
use Rattle.region_model.specs.Areas.{written_along}
use Rattle.region_model.specs.Picture.{request_of}
use Rattle.region_model.specs.Represents.{row_has}
use Rattle.region_model.specs.Sides.{PendingRow, Recorded, TargetState}

-- ==== opening

unfoldable pub opening_target : SettingsData → TargetState
opening_target s =
    record {
      settings = s;
      now = 0;
      blocked = false;
      accepted = 0;
      rows = [];
      delayed = [];
      items = [];
      cleaned = 0;
      laid = 0;
      cleared = 0;
      broken = None;
      log = [];
    }

-- ==== room, by the record of the items

abbrev pub used_in : TargetState → ℕ
used_in t = sum_by (λ x. x.len) t.items

abbrev pub head_in : TargetState → ℕ
head_in t = (t.cleaned + used_in t) % t.settings.ring

abbrev pub free_in : TargetState → ℕ
free_in t = t.settings.ring - used_in t - 1

abbrev pub pad_in : TargetState → ℕ → ℕ
pad_in t n = if nat_lt (t.settings.ring - head_in t) n then t.settings.ring - head_in t else 0

abbrev pub need_in : TargetState → ℕ → ℕ
need_in t n = pad_in t n + n

abbrev pub fits_in : TargetState → ℕ → Bool
fits_in t n = nat_le (need_in t n) (free_in t)

-- the blocks of all pending commands
abbrev pub blocks_held : List PendingRow → List ℕ
blocks_held rows = flat_map (λ e. e.pending.blocks) rows

abbrev pub blocks_free : TargetState → ℕ
blocks_free t = t.settings.blocks - length (blocks_held t.rows)

abbrev pub length_in : TargetState → CommandData → ℕ
length_in t c = entry_length t.settings.pages c

abbrev pub blocks_wanted : TargetState → CommandData → ℕ
blocks_wanted t c = blocks_of t.settings.pages c

abbrev pub has_room : TargetState → CommandData → Bool
has_room t c = fits_in t (length_in t c) && nat_le (blocks_wanted t c) (blocks_free t)

-- ==== laying

abbrev pub with_pad : List ℕ → ℕ → ℕ → List ℕ
with_pad front head n = if n == 0 then front else put front (ring_start + head) (pad_bytes n)

-- where an item of n bytes is laid: at the head, or behind padding at the ring's start
abbrev pub place_in : TargetState → ℕ → ℕ
place_in t n = (head_in t + pad_in t n) % t.settings.ring

-- an entry of n bytes is written there, and then the mailbox's head
unfoldable pub front_with : List ℕ → TargetState → ℕ → List ℕ → List ℕ
front_with front t n bytes =
    put (put (with_pad front (head_in t) (pad_in t n)) (ring_start + place_in t n) bytes) head_place (le 4 ((head_in t + need_in t n) % t.settings.ring))

abbrev pub pads_of : ℕ → List Recorded
pads_of n = if n == 0 then [] else record { kind = kind.Pad; len = n } ∷ []

abbrev pub with_recorded : TargetState → ItemKind → ℕ → TargetState
with_recorded t k n = record t { items = t.items ++ pads_of (pad_in t n) ++ record { kind = k; len = n } ∷ [] }

-- the least free blocks that a command gets
abbrev pub blocks_given : TargetState → CommandData → List ℕ
blocks_given t c = least_free t.settings.blocks (blocks_held t.rows) (blocks_wanted t c)

-- what is written into them: the payload, or zeros all over
abbrev pub block_data : SettingsData → CommandData → ℕ → List ℕ
block_data s c n = if takes_payload c.cdb then c.sent else zeros (block_size s.pages * n)

abbrev pub with_data : RegionState → SettingsData → CommandData → List ℕ → RegionState
with_data r s c blocks =
    let grown = grown_to r (above_all blocks) in
    record grown { blocks = written_along (size_of r) grown.blocks blocks (block_data s c (length blocks)) }

-- a command is laid under an id
unfoldable pub region_laid : RegionState → TargetState → CommandData → ℕ → RegionState
region_laid r t c id =
    record (with_data r t.settings c (blocks_given t c)) {
      front = front_with r.front t (length_in t c) (request_of t.settings (blocks_given t c) (place_in t (length_in t c)) id c);
    }

abbrev pub deadline_in : TargetState → Option ℕ
deadline_in t = if t.settings.timeout == 0 then None else Some (t.now + t.settings.timeout)

abbrev pub row_of : TargetState → ℕ → CommandData → ℕ → PendingRow
row_of t serial c id =
    record {
      id = id;
      pending = record {
        serial = serial;
        init = c.init;
        tag = c.tag;
        in_len = c.in_len;
        blocks = blocks_given t c;
        deadline = deadline_in t;
        expired = false;
        buffer = zeros c.in_len;
      };
    }

unfoldable pub target_laid : TargetState → ℕ → CommandData → ℕ → TargetState
target_laid t serial c id =
    record (with_recorded t kind.Cmd (length_in t c)) {
      rows = t.rows ++ row_of t serial c id ∷ [];
      laid = t.laid + 1;
    }

-- ==== submit

abbrev pub submit_or_full : TargetState → CommandData → Submit
submit_or_full t c =
    if not (fits_in t (length_in t c)) then submit.FullRing (need_in t (length_in t c)) (free_in t)
    else (if not (nat_le (blocks_wanted t c) (blocks_free t)) then submit.FullBlocks (blocks_wanted t c) (blocks_free t)
    else submit.Queued (t.accepted + 1))

abbrev pub submit_or_delay : TargetState → CommandData → Submit
submit_or_delay t c = if has_room t c && (length t.delayed == 0) then submit.Queued (t.accepted + 1) else submit.Delayed (t.accepted + 1)

unfoldable pub target_submit_answer : TargetState → CommandData → Submit
target_submit_answer t c =
    if t.blocked then submit.Busy
    else (if nat_lt t.settings.ring (2 * length_in t c) then submit.TooBig (length_in t c) (t.settings.ring / 2)
    else (if nat_lt t.settings.blocks (blocks_wanted t c) then submit.TooBig (blocks_wanted t c) t.settings.blocks
    else (if t.settings.qfull == 0 then submit_or_full t c else submit_or_delay t c)))

abbrev pub accepted_one : TargetState → TargetState
accepted_one t = record t { accepted = t.accepted + 1 }

-- the id is that of the command, where it is laid
unfoldable pub target_submitted : TargetState → CommandData → ℕ → Submit → TargetState
target_submitted t c id (submit.Queued s) = target_laid (accepted_one t) s c id
target_submitted t c id (submit.Delayed s) =
    record (accepted_one t) { delayed = t.delayed ++ record { serial = s; command = c; leaves = t.now + t.settings.qfull } ∷ [] }
target_submitted t c id submit.Busy = t
target_submitted t c id (submit.TooBig have limit) = t
target_submitted t c id (submit.FullRing need free) = t
target_submitted t c id (submit.FullBlocks need free) = t

unfoldable pub region_submitted : RegionState → TargetState → CommandData → ℕ → Submit → RegionState
region_submitted r t c id (submit.Queued s) = region_laid r t c id
region_submitted r t c id (submit.Delayed s) = r
region_submitted r t c id submit.Busy = r
region_submitted r t c id (submit.TooBig have limit) = r
region_submitted r t c id (submit.FullRing need free) = r
region_submitted r t c id (submit.FullBlocks need free) = r

-- ==== enter

abbrev pub enter_or_full : TargetState → List Delayed → Enter
enter_or_full t [] = enter.Empty
enter_or_full t (w ∷ ws) =
    if not (fits_in t (length_in t w.command)) then enter.FullRing (need_in t (length_in t w.command)) (free_in t)
    else (if not (nat_le (blocks_wanted t w.command) (blocks_free t)) then enter.FullBlocks (blocks_wanted t w.command) (blocks_free t)
    else enter.Entered w.serial)

unfoldable pub target_enter_answer : TargetState → Enter
target_enter_answer t = enter_or_full t t.delayed

-- the first delayed command has room now
abbrev pub can_enter : TargetState → List Delayed → Bool
can_enter t [] = false
can_enter t (w ∷ ws) = has_room t w.command

abbrev pub first_entered : TargetState → ℕ → List Delayed → TargetState
first_entered t id [] = t
first_entered t id (w ∷ ws) = record (target_laid t w.serial w.command id) { delayed = ws }

abbrev pub region_with_first : RegionState → TargetState → ℕ → List Delayed → RegionState
region_with_first r t id [] = r
region_with_first r t id (w ∷ ws) = region_laid r t w.command id

unfoldable pub target_entered : TargetState → ℕ → Enter → TargetState
target_entered t id (enter.Entered s) = first_entered t id t.delayed
target_entered t id enter.Empty = t
target_entered t id (enter.FullRing need free) = t
target_entered t id (enter.FullBlocks need free) = t

unfoldable pub region_entered : RegionState → TargetState → ℕ → Enter → RegionState
region_entered r t id (enter.Entered s) = region_with_first r t id t.delayed
region_entered r t id enter.Empty = r
region_entered r t id (enter.FullRing need free) = r
region_entered r t id (enter.FullBlocks need free) = r

-- ==== task management notes

abbrev pub unknown_in : List PendingRow → List ℕ → Option ℕ
unknown_in rows ss = first_of (λ s. not (list_any (row_has s) rows)) ss

unfoldable pub target_tmr_answer : TargetState → List ℕ → Tmr
target_tmr_answer t ss =
    if not t.settings.flags.tmr then tmr.Off
    else (if t.blocked then tmr.Busy
    else elim (unknown_in t.rows ss) [
      | Some s ↦ tmr.Unknown s
      | None ↦ if fits_in t (tmr_length (length ss)) then tmr.Noted else tmr.FullRing (need_in t (tmr_length (length ss))) (free_in t)
    ])

abbrev pub id_or_zero : Option PendingRow → ℕ
id_or_zero None = 0
id_or_zero (Some e) = e.id

abbrev pub ids_of : List PendingRow → List ℕ → List ℕ
ids_of rows ss = map (λ s. id_or_zero (first_of (row_has s) rows)) ss

unfoldable pub target_noted : TargetState → List ℕ → Tmr → TargetState
target_noted t ss tmr.Noted = with_recorded t kind.Tmr (tmr_length (length ss))
target_noted t ss tmr.Off = t
target_noted t ss tmr.Busy = t
target_noted t ss (tmr.Unknown s) = t
target_noted t ss (tmr.FullRing need free) = t

unfoldable pub region_noted : RegionState → TargetState → ℕ → List ℕ → Tmr → RegionState
region_noted r t type_ ss tmr.Noted = record r { front = front_with r.front t (tmr_length (length ss)) (tmr_bytes type_ (ids_of t.rows ss)) }
region_noted r t type_ ss tmr.Off = r
region_noted r t type_ ss tmr.Busy = r
region_noted r t type_ ss (tmr.Unknown s) = r
region_noted r t type_ ss (tmr.FullRing need free) = r

-- ==== tick

-- a completion that no response answered
abbrev pub closed : ℕ → Option SenseData → PendingData → DoneData
closed status sense p = ending status sense p.serial p.init p.tag

-- CHECK CONDITION with a key and an additional sense code
abbrev pub checked : ℕ → ℕ → ℕ → PendingData → DoneData
checked key asc ascq p = closed 0x02 (Some (record { key = key; asc = asc; ascq = ascq })) p

abbrev pub is_due_at : ℕ → PendingRow → Bool
is_due_at now e = not e.pending.expired && elim (e.pending.deadline) [ None ↦ false | Some at ↦ nat_le at now ]

abbrev pub expired_at : ℕ → PendingRow → PendingRow
expired_at now e = if is_due_at now e then record e { pending = record e.pending { expired = true } } else e

-- ABORTED COMMAND, LOGICAL UNIT COMMUNICATION TIME-OUT, and behind them TASK SET FULL for those that waited too long
abbrev pub ticked_log : TargetState → ℕ → List DoneData
ticked_log t now = map (λ e. checked 0x0b 0x08 0x01 e.pending) (filter (is_due_at now) t.rows) ++ map departure (filter (has_left now) t.delayed)

unfoldable pub target_tick_answer : TargetState → ℕ → ℕ
target_tick_answer t n = length (ticked_log t (later t.now n))

unfoldable pub target_ticked : TargetState → ℕ → TargetState
target_ticked t n =
    let now = later t.now n in
    record t {
      now = now;
      rows = map (expired_at now) t.rows;
      delayed = filter (λ w. not (has_left now w)) t.delayed;
      log = t.log ++ ticked_log t now;
    }

-- ==== block and unblock

unfoldable pub target_block_answer : TargetState → Bool → Bool
target_block_answer t b = if b then not t.blocked else t.blocked

unfoldable pub target_blocked : TargetState → Bool → TargetState
target_blocked t b = record t { blocked = b }
