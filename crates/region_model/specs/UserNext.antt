-- What next does over any bytes that the target left. Blocks that are lent read as zeros.
use Rattle.std.specs.Prelude.{ℕ, suc, zero, ◌+◌, ◌*◌, ◌/◌, ◌%◌, ◌==◌, min, List, [], ◌∷◌, ◌++◌, length, take, slice_index, None, Result, Ok, Err, if◌then◌else◌}
use Rattle.std.specs.List.{filter, list_any}
use Rattle.tcmu_types.specs.Rules.{takes_payload}
use Rattle.tcmu_types.specs.declared.dump.ItemKind.{ItemKind}
use Rattle.tcmu_types.specs.declared.dump.ItemKind.TheVariants as kind
use Rattle.tcmu_types.specs.declared.iovec.Iov.{Iov}
use Rattle.region_model.specs.declared.mailbox.Mailbox.{Mailbox}
use Rattle.region_model.specs.declared.mailbox.MailboxFault.{MailboxFault}
use Rattle.region_model.specs.declared.entry.EntryRef.TheVariants as entry
use Rattle.region_model.specs.declared.entry.EntryFault.{EntryFault}
use Rattle.region_model.specs.Layout.{ring_start}
use Rattle.tcmu_types.specs.ByteFields.{put}
use Rattle.region_model.specs.EntryReading.{entry_read, iov_at, tmr_id_at}
use Rattle.region_model.specs.Iovecs.{along, total_of}
use Rattle.region_model.specs.Regions.{RegionState, size_of, bytes_of, can_lend, lent, parts_of}
use Rattle.region_model.specs.Sides.{Carried, Moved, Copied, JobState, UserState}
use Rattle.region_model.specs.UserSteps.{user_mailbox, is_open_job}

pub data NextAnswer : Type 0 where
  Job : JobState → NextAnswer
  Note : ℕ → List ℕ → NextAnswer
  Nothing : NextAnswer
  BadMailbox : MailboxFault → NextAnswer
  BadEntry : ℕ → EntryFault → NextAnswer

-- an answer, with the region and the user side behind it
pub record Nexted : Type 0 where
  pub answer : NextAnswer
  pub region : RegionState
  pub user : UserState

-- ==== what an entry names

-- n iovecs of the entry at byte b of a front, from an index on
abbrev pub iovs_in : List ℕ → ℕ → ℕ → ℕ → List Iov
iovs_in front b index zero = []
iovs_in front b index (suc n) = iov_at front b index ∷ iovs_in front b (index + 1) n

abbrev pub tmr_ids_in : List ℕ → ℕ → ℕ → ℕ → List ℕ
tmr_ids_in front b index zero = []
tmr_ids_in front b index (suc n) = tmr_id_at front b index ∷ tmr_ids_in front b (index + 1) n

-- ==== a job

-- the bytes that iovecs name, as a number of 32 bits, the greatest for more
abbrev pub data_length : List Iov → ℕ
data_length iovs = min (total_of iovs) 4294967295

abbrev pub copied_data : RegionState → List Iov → List ℕ → List ℕ
copied_data r iovs cdb = if takes_payload cdb then take (data_length iovs) (along (bytes_of r) iovs) else []

-- the blocks of the iovecs, where they can be lent, and else a copy
abbrev pub carried_by : RegionState → List Iov → List ℕ → Carried
carried_by r iovs cdb = if can_lend r iovs then Moved (parts_of r iovs) else Copied (copied_data r iovs cdb)

abbrev pub job_read : RegionState → ℕ → List Iov → List ℕ → JobState
job_read r id iovs cdb =
    record { id = id; cdb = cdb; iovs = iovs; carried = carried_by r iovs cdb; in_len = if takes_payload cdb then 0 else data_length iovs }

abbrev pub region_lent : RegionState → List Iov → RegionState
region_lent r iovs = if can_lend r iovs then lent r iovs else r

-- ==== entries passed

abbrev pub with_passed : UserState → ItemKind → ℕ → UserState
with_passed u k len = record u { place = (u.place + len) % u.ring; items = u.items ++ record { kind = k; len = len } ∷ [] }

-- uflags bit 0 of the entry at a ring offset is set
abbrev pub with_unknown : RegionState → ℕ → RegionState
with_unknown r at =
    let b = slice_index r.front (ring_start + at + 7) in
    record r { front = put r.front (ring_start + at + 7) ((if b % 2 == 0 then b + 1 else b) ∷ []) }

abbrev pub with_job : UserState → ℕ → ℕ → UserState
with_job u len id =
    record (with_passed u kind.Cmd len) {
      jobs = u.jobs ++ record { id = id; parked = None } ∷ [];
      offsets = u.offsets ++ u.place ∷ [];
      dispatched = u.dispatched + 1;
    }

abbrev pub command_next : RegionState → UserState → ℕ → ℕ → List Iov → List ℕ → Nexted
command_next r u len id iovs cdb =
    record { answer = Job (job_read r id iovs cdb); region = region_lent r iovs; user = with_job u len id }

-- of its ids, those of jobs that are not responded
abbrev pub note_next : RegionState → UserState → ℕ → ℕ → List ℕ → Nexted
note_next r u len type_ ids =
    record { answer = Note type_ (filter (λ id. list_any (is_open_job id) u.jobs) ids); region = r; user = with_passed u kind.Tmr len }

-- ==== next

-- From the user side's place up to the mailbox's head, through at most n entries; `before` is the user side as it was, for a fault.
-- Padding and unknown entries are passed.
abbrev pub next_within : ℕ → Mailbox → UserState → RegionState → UserState → Nexted
next_within zero m before r u = record { answer = Nothing; region = r; user = u }
next_within (suc n) m before r u =
    if u.place == m.head then record { answer = Nothing; region = r; user = u }
    else elim (entry_read r.front (size_of r * length r.blocks) m u.place) as (λ x. Nexted) [
      | Err fault ↦ record { answer = BadEntry u.place fault; region = r; user = before }
      | Ok (entry.Pad len) ↦ next_within n m before r (with_passed u kind.Pad len)
      | Ok (entry.Unknown op len) ↦ next_within n m before (with_unknown r u.place) (with_passed u kind.Pad len)
      | Ok (entry.Cmd len id count cdb) ↦ command_next r u len id (iovs_in r.front (ring_start + u.place) 0 count) cdb
      | Ok (entry.Tmr len type_ count) ↦ note_next r u len type_ (tmr_ids_in r.front (ring_start + u.place) 0 count)
    ]

-- an entry has at least 8 bytes, so a ring has no more of them than eighths
abbrev pub most_entries : ℕ → ℕ
most_entries ring = ring / 8 + 1

abbrev pub next_of : RegionState → UserState → Result Mailbox MailboxFault → Nexted
next_of r u (Err fault) = record { answer = BadMailbox fault; region = r; user = u }
next_of r u (Ok m) = next_within (most_entries u.ring) m u r u

unfoldable pub nexted : RegionState → UserState → Nexted
nexted r u = next_of r u (user_mailbox r)
