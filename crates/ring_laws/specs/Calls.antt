-- The target over any bytes: its calls in any order, each on a region whose bytes may have become anything since the one before.
use Rattle.std.specs.Prelude.{◌≡◌, ◌≢◌, ◌⊎◌, ℕ, ◌+◌, ◌-◌, ◌%◌, ◌<◌, ◌≤◌, ◌==◌, ◌&&◌, not, nat_lt, nat_le, Bool, true, false, List, [], ◌∷◌, ◌++◌, length, take, drop, map, slice_get, Some, None, if◌then◌else◌}
use Rattle.std.specs.List.{count_by, sum_by}
use Rattle.std.specs.Option.{is_some}
use Rattle.tcmu_types.specs.Data.{CommandData, DoneData}
use Rattle.tcmu_types.specs.declared.answer.Submit.{Submit}
use Rattle.tcmu_types.specs.declared.answer.Submit.TheVariants as submit
use Rattle.tcmu_types.specs.declared.answer.Enter.TheVariants as enter
use Rattle.tcmu_types.specs.declared.dump.ItemKind.TheVariants as kind
use Rattle.tcmu_types.specs.Lists.{first_of, Every}
use Rattle.region_model.specs.Layout.{ring_start}
use Rattle.region_model.specs.EntryReading.{response_at}
use Rattle.tcmu_model.specs.Lengths.{blocks_of}
use Rattle.tcmu_model.specs.Device.{Delayed}
use Rattle.tcmu_types.specs.Numbers.{is_among, Differ, Rise}
use Rattle.tcmu_model.specs.Sound.{delayed_serials, is_delayed_at, times_logged}
use Rattle.region_model.specs.Regions.{RegionState, size_of}
use Rattle.region_model.specs.Pending.{PendingData}
use Rattle.region_model.specs.Areas.{bytes_along}
use Rattle.region_model.specs.Sides.{PendingRow, Recorded, TargetState}
use Rattle.region_model.specs.Represents.{IsId, has_id, row_has}
use Rattle.region_model.specs.TargetSteps.{blocks_held, target_submit_answer, target_submitted, target_enter_answer, target_entered, target_tmr_answer, target_noted, target_ticked, target_blocked}
use Rattle.region_model.specs.TargetCleans.{target_cleaned, region_cleaned, reset_logs, target_reset}

-- ==== calls

-- a submit and an enter come with the id that is taken where a command is laid; a reset has its level
pub data TargetCall : Type 0 where
  Submits : CommandData → ℕ → TargetCall
  Enters : ℕ → TargetCall
  Notes : ℕ → List ℕ → TargetCall
  Ticks : ℕ → TargetCall
  Blocks : Bool → TargetCall
  Cleans : TargetCall
  Resets : ℕ → TargetCall

-- what a call makes of the target, on a region of any bytes and any area
abbrev pub target_called : RegionState → TargetState → TargetCall → TargetState
target_called r t (Submits c id) = target_submitted t c id (target_submit_answer t c)
target_called r t (Enters id) = target_entered t id (target_enter_answer t)
target_called r t (Notes type_ ss) = target_noted t ss (target_tmr_answer t ss)
target_called r t (Ticks n) = target_ticked t n
target_called r t (Blocks b) = target_blocked t b
target_called r t Cleans = target_cleaned r t
target_called r t (Resets level) = target_reset r t level

-- an id that no command has
pub record IsFreeId (t : TargetState) (id : ℕ) : Type 0 where
  pub range : IsId id
  pub free : is_among (map (λ e. e.id) t.rows) id ≡ false

-- where a command is laid its id is free; nothing else is asked of a call, also not that a reset finds the target blocked
abbrev pub CanCall : TargetState → TargetCall → Type 0
CanCall t (Submits c id) = (s : ℕ) → target_submit_answer t c ≡ submit.Queued s → IsFreeId t id
CanCall t (Enters id) = (s : ℕ) → target_enter_answer t ≡ enter.Entered s → IsFreeId t id
CanCall t (Notes type_ ss) = Unit {0}
CanCall t (Ticks n) = Unit {0}
CanCall t (Blocks b) = Unit {0}
CanCall t Cleans = Unit {0}
CanCall t (Resets level) = Unit {0}

-- a call, and the region as it finds it
pub record CallMade : Type 0 where
  pub region : RegionState
  pub call : TargetCall

-- the calls in order lead from one state to another
abbrev pub Called : TargetState → List CallMade → TargetState → Type 0
Called t [] after = after ≡ t
Called t (m ∷ ms) after = CanCall t m.call × Called (target_called m.region t m.call) ms after

-- ==== what every list of calls keeps

-- the command of this serial is pending and has not expired
abbrev pub is_pending_at : ℕ → PendingRow → Bool
is_pending_at s e = (e.pending.serial == s) && not e.pending.expired

abbrev pub times_pending : List PendingRow → ℕ → ℕ
times_pending rows s = count_by (is_pending_at s) rows

abbrev pub times_delayed : List Delayed → ℕ → ℕ
times_delayed delayed s = count_by (is_delayed_at s) delayed

-- serials are given from 1 on
abbrev pub is_given : ℕ → ℕ → Bool
is_given accepted s = nat_lt 0 s && nat_le s accepted

pub record RowsSound (limit : ℕ) (rows : List PendingRow) : Type 0 where
  -- ids are of 1 to 65535, and differ
  pub range : Every (λ e. IsId e.id) rows
  pub ids : Differ (map (λ e. e.id) rows)
  -- no block is held twice, and each is below the limit
  pub blocks : Differ (blocks_held rows)
  pub below : Every (λ n. n < limit) (blocks_held rows)
  pub room : length (blocks_held rows) ≤ limit

pub record SerialsSound (accepted : ℕ) (rows : List PendingRow) (delayed : List Delayed) (log : List DoneData) : Type 0 where
  -- those that are laid rise, then those delayed
  pub rise : Rise 0 (map (λ e. e.pending.serial) rows ++ delayed_serials delayed) accepted
  -- each accepted serial is once in the log, or once pending and not expired, or once delayed, and no other is
  pub accounted : (s : ℕ) → times_logged log s + times_pending rows s + times_delayed delayed s ≡ (if is_given accepted s then 1 else 0)

pub record TargetSound (t : TargetState) : Type 0 where
  pub rows : RowsSound t.settings.blocks t.rows
  pub serials : SerialsSound t.accepted t.rows t.delayed t.log
  -- with qfull 0 no command waits
  pub none : t.settings.qfull ≡ 0 → t.delayed ≡ []

-- ==== what a clean logs

-- a completion of a command, with no more than the first bytes along the command's own blocks
pub record CompletesOwn (r : RegionState) (p : PendingData) (e : DoneData) : Type 0 where
  pub serial : e.serial ≡ p.serial
  pub init : e.init ≡ p.init
  pub tag : e.tag ≡ p.tag
  pub payload : (n : ℕ) × (n ≤ p.in_len) × (e.payload ≡ take n (bytes_along (size_of r) r.blocks p.blocks))

-- one of a command that was pending and had not expired, and that is taken out
pub record CompletedBy (r : RegionState) (before after : List PendingRow) (e : DoneData) : Type 0 where
  pub row : PendingRow
  pub there : first_of (row_has e.serial) before ≡ Some row
  pub unexpired : row.pending.expired ≡ false
  pub gone : first_of (row_has e.serial) after ≡ None
  pub own : CompletesOwn r row.pending e

-- a clean puts such completions behind the log, and no others
pub record CleanLogs (r : RegionState) (t after : TargetState) : Type 0 where
  pub more : List DoneData
  pub log : after.log ≡ t.log ++ more
  pub each : Every (CompletedBy r t.rows after.rows) more

-- a completion without bytes, or one of a pending command, with bytes of its own blocks
abbrev pub HasOwnBytes : RegionState → List PendingRow → DoneData → Type 0
HasOwnBytes r rows e = (e.payload ≡ []) ⊎ ((row : PendingRow) × (first_of (row_has e.serial) rows ≡ Some row) × CompletesOwn r row.pending e)

-- a call puts such completions behind the log, and takes none back
pub record CallLogs (r : RegionState) (t after : TargetState) : Type 0 where
  pub more : List DoneData
  pub log : after.log ≡ t.log ++ more
  pub each : Every (HasOwnBytes r t.rows) more

-- ==== where a clean stops

-- a clean leaves the target and the region as they are
pub record Unchanged (r : RegionState) (t : TargetState) : Type 0 where
  pub target : target_cleaned r t ≡ t
  pub region : region_cleaned r t ≡ r

abbrev pub is_reset : TargetCall → Bool
is_reset (Submits c id) = false
is_reset (Enters id) = false
is_reset (Notes type_ ss) = false
is_reset (Ticks n) = false
is_reset (Blocks b) = false
is_reset Cleans = false
is_reset (Resets level) = true

-- the first k items are cleared, and no others
pub record ClearsFirst (before after : TargetState) (k : ℕ) : Type 0 where
  pub items : after.items ≡ drop k before.items
  pub cleaned : after.cleaned ≡ (before.cleaned + sum_by (λ x. x.len) (take k before.items)) % before.settings.ring

-- a clean has stopped at an id that no command has, and keeps it
pub record StopsAt (r : RegionState) (id : ℕ) (t : TargetState) : Type 0 where
  pub kept : t.broken ≡ Some id
  pub none : first_of (has_id id) t.rows ≡ None
  -- the item there is a command's, and stays, and the id stands in its entry
  pub len : ℕ
  pub rest : List Recorded
  pub item : t.items ≡ record { kind = kind.Cmd; len = len } ∷ rest
  pub read : (response_at r.front (ring_start + t.cleaned)).id ≡ id

-- a target with nothing in it and no place left, which has logged what was left behind a clean; the moment and the bit stay
pub record Emptied (before : TargetState) (level : ℕ) (t : TargetState) : Type 0 where
  pub rows : t.rows ≡ []
  pub delayed : t.delayed ≡ []
  pub items : t.items ≡ []
  pub cleaned : t.cleaned ≡ 0
  pub laid : t.laid ≡ 0
  pub cleared : t.cleared ≡ 0
  pub broken : t.broken ≡ None
  pub settings : t.settings ≡ before.settings
  pub now : t.now ≡ before.now
  pub blocked : t.blocked ≡ before.blocked
  pub accepted : t.accepted ≡ before.accepted
  pub log : t.log ≡ before.log ++ reset_logs before level

-- ==== the commands of a list of calls

abbrev pub accepted_command : CommandData → Submit → List CommandData
accepted_command c (submit.Queued s) = c ∷ []
accepted_command c (submit.Delayed s) = c ∷ []
accepted_command c submit.Busy = []
accepted_command c (submit.TooBig have limit) = []
accepted_command c (submit.FullRing need free) = []
accepted_command c (submit.FullBlocks need free) = []

abbrev pub accepted_at : TargetState → TargetCall → List CommandData
accepted_at t (Submits c id) = accepted_command c (target_submit_answer t c)
accepted_at t (Enters id) = []
accepted_at t (Notes type_ ss) = []
accepted_at t (Ticks n) = []
accepted_at t (Blocks b) = []
accepted_at t Cleans = []
accepted_at t (Resets level) = []

-- the commands that were accepted, in order: the serial of the k-th is k
abbrev pub accepted_along : TargetState → List CallMade → List CommandData
accepted_along t [] = []
accepted_along t (m ∷ ms) = accepted_at t m.call ++ accepted_along (target_called m.region t m.call) ms

-- the command of a serial
abbrev pub HasSerial : List CommandData → ℕ → CommandData → Type 0
HasSerial cs s c = (1 ≤ s) × (slice_get cs (s - 1) ≡ Some c)

-- a row has the fields of its command, and as many blocks as that needs
pub record IsRowOf (cs : List CommandData) (pages : ℕ) (p : PendingData) : Type 0 where
  pub command : CommandData
  pub serial : HasSerial cs p.serial command
  pub init : p.init ≡ command.init
  pub tag : p.tag ≡ command.tag
  pub in_len : p.in_len ≡ command.in_len
  pub count : length p.blocks ≡ blocks_of pages command

-- a completion is for its command's initiator and tag, with no more bytes than were asked for; it has sense data exactly with CHECK
-- CONDITION, and bytes only with GOOD
pub record IsDoneOf (cs : List CommandData) (e : DoneData) : Type 0 where
  pub command : CommandData
  pub serial : HasSerial cs e.serial command
  pub init : e.init ≡ command.init
  pub tag : e.tag ≡ command.tag
  pub short : length e.payload ≤ command.in_len
  pub sense : is_some e.sense ≡ (e.status == 2)
  pub bytes : e.status ≢ 0 → e.payload ≡ []

-- all that a target has is of the commands that it accepted
pub record IsOfCommands (cs : List CommandData) (t : TargetState) : Type 0 where
  pub count : length cs ≡ t.accepted
  pub rows : Every (λ e. IsRowOf cs t.settings.pages e.pending) t.rows
  pub delayed : Every (λ w. HasSerial cs w.serial w.command) t.delayed
  pub log : Every (IsDoneOf cs) t.log
