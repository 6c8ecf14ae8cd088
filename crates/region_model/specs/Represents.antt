-- A region, with what the target and the user side keep and the jobs in hand, represents a device with its block lists. Each
-- point is a definition of its own, and no law of an event shows all of them at once.
use Rattle.std.specs.Prelude.{◌≡◌, ℕ, zero, suc, ◌+◌, ◌%◌, ◌<◌, ◌≤◌, ◌==◌, ◌⊎◌, Bool, true, List, [], ◌∷◌, length, take, drop, map, slice_get, Option, Some, None, if◌then◌else◌, MatchBool}
use Rattle.std.specs.List.{filter}
use Rattle.std.specs.Option.{option_map}
use Rattle.tcmu_types.specs.Data.{CommandData, SettingsData}
use Rattle.tcmu_types.specs.Rules.{payload_length}
use Rattle.tcmu_model.specs.declared.state.CommandState.TheVariants.{Out, Handled}
use Rattle.tcmu_model.specs.declared.state.CommandState.TheVariants as state
use Rattle.tcmu_types.specs.Lists.{first_of, Every}
use Rattle.tcmu_model.specs.Lengths.{block_size}
use Rattle.tcmu_model.specs.RingState.{Item, Cmd, Tmr, is_command, commands_in, serials_in, published_commands, cleared_commands, dispatched_commands}
use Rattle.tcmu_model.specs.Device.{Unfinished, DeviceState, has_state}
use Rattle.tcmu_model.specs.Events.{is_in_hand}
use Rattle.tcmu_types.specs.Numbers.{is_among, Differ}
use Rattle.tcmu_model.specs.BlockLists.{Taken, list_of, held_by}
use Rattle.region_model.specs.Layout.{ring_start, data_start}
use Rattle.tcmu_types.specs.ByteFields.{field}
use Rattle.tcmu_types.specs.Overwriting.{zeros}
use Rattle.region_model.specs.Iovecs.{gathered}
use Rattle.region_model.specs.Regions.{RegionState, HaveSize}
use Rattle.region_model.specs.Pending.{PendingData}
use Rattle.region_model.specs.Areas.{bytes_along, IsHome, IsLent}
use Rattle.region_model.specs.Picture.{place_of, tail, payload_of, command_iovs, item_bytes, kind_of, ids_named, shown_mailbox}
use Rattle.region_model.specs.Sides.{PendingRow, Recorded, TargetState, Moved, JobState, Parked, GivenJob, UserState, InHand}

-- ==== the ring

-- n bytes of a front from a ring offset on
abbrev pub entry_at : List ℕ → ℕ → ℕ → List ℕ
entry_at front at n = take n (drop (ring_start + at) front)

-- the id that stands in an entry
abbrev pub id_in : List ℕ → ℕ
id_in entry = field 2 4 entry

-- the first n ids of a task management entry, in its order, from the byte `at` on
abbrev pub ids_in : ℕ → ℕ → List ℕ → List ℕ
ids_in zero at entry = []
ids_in (suc n) at entry = field 2 at entry ∷ ids_in n (at + 2) entry

-- the item at an index stands at its place, under the ids that stand there
abbrev pub StandsAt : List ℕ → DeviceState → List Taken → ℕ → Item → Type 0
StandsAt front d lists i x =
    let entry = entry_at front (place_of d.ring i) x.len in
    entry ≡ item_bytes d lists i (id_in entry) (ids_in (ids_named x) 32 entry) x

abbrev pub recorded : Item → Recorded
recorded x = record { kind = kind_of x.laid; len = x.len }

-- the region's bytes before its data area, and the target's record of the items that are not cleared
pub record RingStands (front : List ℕ) (items : List Recorded) (d : DeviceState) (lists : List Taken) : Type 0 where
  pub long : length front ≡ data_start d.ring.size
  pub mailbox : take ring_start front ≡ shown_mailbox d
  pub stands : (i : ℕ) (x : Item) → d.ring.cleared ≤ i → slice_get d.ring.laid i ≡ Some x → StandsAt front d lists i x
  pub recorded : items ≡ map recorded (drop d.ring.cleared d.ring.laid)

-- ==== ids

abbrev pub row_has : ℕ → PendingRow → Bool
row_has s e = e.pending.serial == s

abbrev pub has_id : ℕ → PendingRow → Bool
has_id id e = e.id == id

-- the id of a serial, where it is pending
abbrev pub id_of : List PendingRow → ℕ → Option ℕ
id_of rows s = option_map (λ e. e.id) (first_of (row_has s) rows)

abbrev pub entry_id_at : List ℕ → ℕ → ℕ
entry_id_at front at = id_in (entry_at front at 112)

pub record IsId (id : ℕ) : Type 0 where
  pub low : 1 ≤ id
  pub high : id ≤ 65535

-- Ids differ. The k-th command entry that is not cleared has the id of the answer placed k-th; one that is not dispatched has its own
-- command's; any other may have any.
pub record IdsStand (front : List ℕ) (rows : List PendingRow) (d : DeviceState) : Type 0 where
  pub range : Every (λ e. IsId e.id) rows
  pub differ : Differ (map (λ e. e.id) rows)
  pub answered : (i : ℕ) (x : Item) (s : ℕ) → d.ring.cleared ≤ i → slice_get d.ring.laid i ≡ Some x → is_command x ≡ true
      → slice_get d.placed (commands_in (take i d.ring.laid)) ≡ Some s → id_of rows s ≡ Some (entry_id_at front (place_of d.ring i))
  pub own : (i n s : ℕ) (c : CommandData) → d.ring.dispatched ≤ i → slice_get d.ring.laid i ≡ Some (record { len = n; laid = Cmd s c })
      → id_of rows s ≡ Some (entry_id_at front (place_of d.ring i))

-- ==== task management notes

-- the serial under an id
abbrev pub serial_with : List PendingRow → ℕ → Option ℕ
serial_with rows id = option_map (λ e. e.pending.serial) (first_of (has_id id) rows)

-- an id that has no command, or one that is laid behind the note
abbrev pub IsLeftOver : List PendingRow → List ℕ → ℕ → Type 0
IsLeftOver rows behind id = (serial_with rows id ≡ None) ⊎ ((t : ℕ) × (serial_with rows id ≡ Some t) × (is_among behind t ≡ true))

-- a note names its command by the id that it has; where the command is finished, its id is left over
abbrev pub IsNoteId : List PendingRow → List ℕ → ℕ → ℕ → Type 0
IsNoteId rows behind s id = (id_of rows s ≡ Some id) ⊎ ((id_of rows s ≡ None) × IsLeftOver rows behind id)

abbrev pub AreNoteIds : List PendingRow → List ℕ → List ℕ → List ℕ → Type 0
AreNoteIds rows behind [] [] = Unit {0}
AreNoteIds rows behind (s ∷ ss) (id ∷ ids) = IsNoteId rows behind s id × AreNoteIds rows behind ss ids
AreNoteIds rows behind _ _ = ⊥

-- a note between the commands laid before it and those behind it: its type is a byte, and it is on commands laid before
pub record NoteStands (rows : List PendingRow) (before behind : List ℕ) (type_ : ℕ) (ss ids : List ℕ) : Type 0 where
  pub byte : type_ < 256
  pub earlier : Every (λ s. is_among before s ≡ true) ss
  pub named : AreNoteIds rows behind ss ids

abbrev pub NotesStand : List ℕ → List PendingRow → DeviceState → Type 0
NotesStand front rows d =
    (i n type_ : ℕ) (ss : List ℕ) → d.ring.dispatched ≤ i → slice_get d.ring.laid i ≡ Some (record { len = n; laid = Tmr type_ ss })
    → NoteStands rows (serials_in (take i d.ring.laid)) (serials_in (drop i d.ring.laid)) type_ ss (ids_in (length ss) 32 (entry_at front (place_of d.ring i) n))

-- ==== blocks and data

-- blocks are at home, and begin with these bytes
pub record HaveData (size : ℕ) (area : List (Option (List ℕ))) (blocks : List ℕ) (bytes : List ℕ) : Type 0 where
  pub here : Every (IsHome size area) blocks
  pub begin_ : take (length bytes) (bytes_along size area blocks) ≡ bytes

-- the blocks of a command that is in hand are lent; any other's have its payload
abbrev pub BlocksOf : ℕ → List (Option (List ℕ)) → List Taken → Unfinished → Type 0
BlocksOf size area lists u =
    MatchBool (is_in_hand u) (Every (IsLent area) (list_of lists u.serial)) (HaveData size area (list_of lists u.serial) (payload_of u))

pub record BlocksStand (area : List (Option (List ℕ))) (d : DeviceState) (lists : List Taken) : Type 0 where
  pub all : Every (BlocksOf (block_size d.settings.pages) area lists) d.unfinished
  -- no other block is lent
  pub just : (n : ℕ) → IsLent area n → is_among (held_by lists (filter is_in_hand d.unfinished)) n ≡ true

-- ==== jobs

-- the job of a command, with these parts: the blocks of the command's list, which have its payload
pub record IsJobOf (s : SettingsData) (rows : List PendingRow) (lists : List Taken) (u : Unfinished) (job : JobState) (parts : List (List ℕ)) : Type 0 where
  pub id : id_of rows u.serial ≡ Some job.id
  pub cdb : job.cdb ≡ u.command.cdb
  pub iovs : job.iovs ≡ command_iovs s (list_of lists u.serial) u.command
  pub in_len : job.in_len ≡ u.command.in_len
  pub carried : job.carried ≡ Moved parts
  pub count : length parts ≡ length (list_of lists u.serial)
  pub size : HaveSize (block_size s.pages) parts
  pub payload : take (payload_length u.command) (gathered parts) ≡ payload_of u

-- the user side knows the job; where it is parked, it has it, with its reply
abbrev pub IsGiven : SettingsData → List PendingRow → List Taken → GivenJob → Unfinished → Type 0
IsGiven s rows lists g u =
    (id_of rows u.serial ≡ Some g.id) × MatchBool (has_state state.Parked u)
    ((p : Parked) × (g.parked ≡ Some p) × (u.reply ≡ Some p.reply) × (parts : List (List ℕ)) × IsJobOf s rows lists u p.job parts)
    (g.parked ≡ None)

abbrev pub AreGiven : SettingsData → List PendingRow → List Taken → List GivenJob → List Unfinished → Type 0
AreGiven s rows lists [] [] = Unit {0}
AreGiven s rows lists (g ∷ gs) (u ∷ us) = IsGiven s rows lists g u × AreGiven s rows lists gs us
AreGiven s rows lists _ _ = ⊥

-- the handler, or the user side with its reply, has it
abbrev pub is_out : Unfinished → Bool
is_out u = if has_state Out u then true else has_state Handled u

abbrev pub IsOut : SettingsData → List PendingRow → List Taken → InHand → Unfinished → Type 0
IsOut s rows lists h u = (h.serial ≡ u.serial) × (h.reply ≡ u.reply) × ((parts : List (List ℕ)) × IsJobOf s rows lists u h.job parts)

abbrev pub AreOut : SettingsData → List PendingRow → List Taken → List InHand → List Unfinished → Type 0
AreOut s rows lists [] [] = Unit {0}
AreOut s rows lists (h ∷ hs) (u ∷ us) = IsOut s rows lists h u × AreOut s rows lists hs us
AreOut s rows lists _ _ = ⊥

-- the ring offsets of the commands among items, of which the first begins behind so many bytes laid
abbrev pub command_places : ℕ → ℕ → List Item → List ℕ
command_places size at [] = []
command_places size at (x ∷ xs) = if is_command x then (at % size) ∷ command_places size (at + x.len) xs else command_places size (at + x.len) xs

pub record JobsStand (user : UserState) (hand : List InHand) (rows : List PendingRow) (d : DeviceState) (lists : List Taken) : Type 0 where
  pub given : AreGiven d.settings rows lists user.jobs (filter is_in_hand d.unfinished)
  pub out : AreOut d.settings rows lists hand (filter is_out d.unfinished)
  -- of the command entries that are dispatched and not yet used for an answer
  pub offsets : user.offsets ≡ drop (length d.placed) (command_places d.ring.size 0 (take d.ring.dispatched d.ring.laid))

-- ==== the two sides' own records

-- what the target keeps of a command
abbrev pub pending_of : List Taken → Unfinished → PendingData
pending_of lists u =
    record {
      serial = u.serial;
      init = u.command.init;
      tag = u.command.tag;
      in_len = u.command.in_len;
      blocks = list_of lists u.serial;
      deadline = u.deadline;
      expired = u.expired;
      buffer = zeros u.command.in_len;
    }

pub record TargetKeeps (t : TargetState) (d : DeviceState) (lists : List Taken) : Type 0 where
  pub settings : t.settings ≡ d.settings
  pub now : t.now ≡ d.now
  pub blocked : t.blocked ≡ d.blocked
  pub accepted : t.accepted ≡ d.accepted
  pub rows : map (λ e. e.pending) t.rows ≡ map (pending_of lists) d.unfinished
  pub delayed : t.delayed ≡ d.delayed
  pub cleaned : t.cleaned ≡ place_of d.ring d.ring.cleared
  pub laid : t.laid ≡ commands_in d.ring.laid
  pub cleared : t.cleared ≡ cleared_commands d.ring
  pub broken : t.broken ≡ None
  pub log : t.log ≡ d.log

pub record UserKeeps (user : UserState) (d : DeviceState) : Type 0 where
  pub ring : user.ring ≡ d.settings.ring
  pub pages : user.pages ≡ d.settings.pages
  pub flags : user.flags ≡ d.settings.flags
  pub tail : user.tail ≡ tail d.ring
  pub dispatched : user.dispatched ≡ dispatched_commands d.ring
  pub placed : user.placed ≡ length d.placed
  pub published : user.published ≡ published_commands d.ring
  pub place : d.attached ≡ true → user.place ≡ place_of d.ring d.ring.dispatched
  pub items : d.attached ≡ true → user.items ≡ map recorded (drop d.ring.published (take d.ring.dispatched d.ring.laid))

-- ==== all of it

pub record Represents (r : RegionState) (t : TargetState) (user : UserState) (hand : List InHand) (d : DeviceState) (lists : List Taken) : Type 0 where
  pub ring : RingStands r.front t.items d lists
  pub ids : IdsStand r.front t.rows d
  pub notes : NotesStand r.front t.rows d
  pub blocks : BlocksStand r.blocks d lists
  pub jobs : JobsStand user hand t.rows d lists
  pub target : TargetKeeps t d lists
  pub side : UserKeeps user d
  pub pages : r.pages ≡ d.settings.pages
