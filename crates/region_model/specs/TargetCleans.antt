-- What clean and reset do over any bytes that the user side left: kinds and lengths of items come from the target's own record, and
-- of the ring no more is read than the mailbox's tail, and the id and the response of an entry.
use Rattle.std.specs.Prelude.{ℕ, ◌+◌, ◌-◌, ◌/◌, ◌%◌, ◌==◌, ◌||◌, not, min, Bool, false, List, [], ◌∷◌, ◌++◌, length, take, map, Option, Some, None, if◌then◌else◌}
use Rattle.std.specs.List.{filter}
use Rattle.tcmu_types.specs.Data.{SenseData, DoneData}
use Rattle.tcmu_types.specs.SenseBytes.{sense_in}
use Rattle.tcmu_types.specs.declared.dump.ItemKind.{ItemKind}
use Rattle.tcmu_types.specs.declared.dump.ItemKind.TheVariants as kind
use Rattle.region_model.specs.declared.entry.Response.{Response}
use Rattle.tcmu_types.specs.Lists.{first_of, without_first}
use Rattle.tcmu_types.specs.Numbers.{above_all}
use Rattle.tcmu_model.specs.Events.{reset_ending, reset_completion}
use Rattle.region_model.specs.Layout.{ring_start, head_place, tail_place}
use Rattle.tcmu_types.specs.ByteFields.{le, put, field}
use Rattle.region_model.specs.EntryReading.{response_at}
use Rattle.region_model.specs.Regions.{RegionState, size_of, shrunk_to}
use Rattle.region_model.specs.Pending.{PendingData}
use Rattle.region_model.specs.Areas.{bytes_along}
use Rattle.region_model.specs.Represents.{has_id}
use Rattle.region_model.specs.Sides.{PendingRow, Recorded, TargetState}
use Rattle.region_model.specs.TargetSteps.{blocks_held, closed, checked}

pub data CleanAnswer : Type 0 where
  Logged : ℕ → CleanAnswer
  BadTail : ℕ → CleanAnswer
  Broken : ℕ → CleanAnswer

abbrev pub tail_read : RegionState → ℕ
tail_read r = field 4 tail_place r.front

-- a place is the end of one of these items, of which the first begins at another
abbrev pub ends_at : ℕ → ℕ → List Recorded → ℕ → Bool
ends_at ring at [] tail = false
ends_at ring at (x ∷ xs) tail = ((at + x.len) % ring == tail) || ends_at ring ((at + x.len) % ring) xs tail

abbrev pub tail_fits : RegionState → TargetState → Bool
tail_fits r t = (tail_read r == t.cleaned) || ends_at t.settings.ring t.cleaned t.items (tail_read r)

-- ==== one completion

-- a length counts where the response says that it has one, up to the bytes that were asked for
abbrev pub length_told : Response → ℕ → ℕ
length_told a in_len = if a.uflags / 2 % 2 == 0 then in_len else min in_len a.read_len

abbrev pub payload_read : ℕ → List (Option (List ℕ)) → PendingData → Response → List ℕ
payload_read size area p a = if a.status == 0 then take (length_told a p.in_len) (bytes_along size area p.blocks) else []

abbrev pub sense_read : Response → Option SenseData
sense_read a = if a.status == 2 then Some (sense_in a.sense) else None

-- the user side did not know the entry: HARDWARE ERROR, INTERNAL TARGET FAILURE; else what the response says
abbrev pub completion_read : ℕ → List (Option (List ℕ)) → PendingData → Response → DoneData
completion_read size area p a =
    if a.uflags % 2 == 1 then checked 0x04 0x44 0x00 p
    else record (closed a.status (sense_read a) p) { payload = payload_read size area p a }

-- one that expired is in the log already
abbrev pub completions_read : ℕ → List (Option (List ℕ)) → PendingData → Response → List DoneData
completions_read size area p a = if p.expired then [] else completion_read size area p a ∷ []

-- ==== the items in order

abbrev pub past : TargetState → Recorded → List Recorded → TargetState
past t x xs = record t { items = xs; cleaned = (t.cleaned + x.len) % t.settings.ring }

-- the command of an answer is taken out; an id without a command is kept, and stops
abbrev pub answered_by : RegionState → Response → TargetState → Recorded → List Recorded → Option PendingRow → TargetState
answered_by r a t x xs None = record t { broken = Some a.id }
answered_by r a t x xs (Some e) =
    record (past t x xs) {
      rows = without_first (has_id a.id) t.rows;
      cleared = t.cleared + 1;
      log = t.log ++ completions_read (size_of r) r.blocks e.pending a;
    }

abbrev pub response_in : RegionState → TargetState → Response
response_in r t = response_at r.front (ring_start + t.cleaned)

abbrev pub command_cleaned : RegionState → Response → TargetState → Recorded → List Recorded → TargetState
command_cleaned r a t x xs = answered_by r a t x xs (first_of (has_id a.id) t.rows)

abbrev pub one_cleaned : RegionState → TargetState → Recorded → List Recorded → ItemKind → TargetState
one_cleaned r t x xs kind.Pad = past t x xs
one_cleaned r t x xs kind.Tmr = past t x xs
one_cleaned r t x xs kind.Cmd = command_cleaned r (response_in r t) t x xs

-- a broken id stops what would come behind it
abbrev pub unless_broken : Option ℕ → TargetState → TargetState → TargetState
unless_broken None t further = further
unless_broken (Some id) t further = t

-- from the cleaned place up to the tail, or to the first id without a command
abbrev pub all_cleaned : RegionState → ℕ → TargetState → List Recorded → TargetState
all_cleaned r tail t [] = t
all_cleaned r tail t (x ∷ xs) =
    if t.cleaned == tail then t
    else unless_broken t.broken t (all_cleaned r tail (one_cleaned r t x xs x.kind) xs)

-- ==== clean

-- with a broken id, or a tail that is no item's end, nothing changes
unfoldable pub target_cleaned : RegionState → TargetState → TargetState
target_cleaned r t =
    elim (t.broken) [ Some id ↦ t | None ↦ if tail_fits r t then all_cleaned r (tail_read r) t t.items else t ]

abbrev pub logged_or_broken : ℕ → TargetState → CleanAnswer
logged_or_broken before t = elim (t.broken) [ Some id ↦ Broken id | None ↦ Logged (length t.log - before) ]

unfoldable pub target_clean_answer : RegionState → TargetState → CleanAnswer
target_clean_answer r t =
    elim (t.broken) [ Some id ↦ Broken id | None ↦ if tail_fits r t then logged_or_broken (length t.log) (target_cleaned r t) else BadTail (tail_read r) ]

-- where a command was taken out, the area ends behind the highest block that is held
unfoldable pub region_cleaned : RegionState → TargetState → RegionState
region_cleaned r t =
    if length (target_cleaned r t).rows == length t.rows then r
    else shrunk_to r (above_all (blocks_held (target_cleaned r t).rows))

-- ==== reset of a blocked device

-- level 1: BUSY; level 2: HARDWARE ERROR, INTERNAL TARGET FAILURE
abbrev pub reset_log : ℕ → PendingData → DoneData
reset_log level p = reset_ending level p.serial p.init p.tag

abbrev pub reset_logs : TargetState → ℕ → List DoneData
reset_logs t level =
    map (λ e. reset_log level e.pending) (filter (λ e. not e.pending.expired) t.rows)
    ++ map (λ w. reset_completion level w.serial w.command) t.delayed

abbrev pub emptied_of : TargetState → ℕ → TargetState
emptied_of t level =
    record t {
      rows = [];
      delayed = [];
      items = [];
      cleaned = 0;
      laid = 0;
      cleared = 0;
      broken = None;
      log = t.log ++ reset_logs t level;
    }

-- what clean would do up to its first fault, and then all that is left is logged and forgotten
unfoldable pub target_reset : RegionState → TargetState → ℕ → TargetState
target_reset r t level = emptied_of (target_cleaned r t) level

unfoldable pub target_reset_answer : RegionState → TargetState → ℕ → ℕ
target_reset_answer r t level = length (target_reset r t level).log - length t.log

-- head and tail are 0, and the area is empty
unfoldable pub region_reset : RegionState → RegionState
region_reset r = record (shrunk_to r 0) { front = put (put r.front head_place (le 4 0)) tail_place (le 4 0) }
