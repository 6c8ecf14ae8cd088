-- What a dump is read from: the entries of the ring, and the lengths of the payloads of all commands that were accepted.
use Rattle.std.specs.Prelude.{◌≡◌, ℕ, ◌+◌, ◌-◌, ◌%◌, ◌≤◌, List, [], ◌∷◌, ◌++◌, length, slice_get, take, Option, None, Some}
use Rattle.tcmu_types.specs.Data.{CommandData}
use Rattle.tcmu_types.specs.Dumps.{HeldData}
use Rattle.tcmu_types.specs.Lists.{Every, first_of}
use Rattle.tcmu_types.specs.Rules.{payload_length}
use Rattle.tcmu_types.specs.declared.dump.ItemKind.{ItemKind}
use Rattle.tcmu_types.specs.declared.dump.ItemKind.TheVariants as kind
use Rattle.tcmu_types.specs.declared.answer.Submit.{Submit}
use Rattle.tcmu_types.specs.declared.answer.Submit.TheVariants as submit
use Rattle.tcmu_model.specs.Device.{DeviceState}
use Rattle.tcmu_model.specs.RingState.{Laid, Pad, Cmd, Tmr}
use Rattle.region_model.specs.Areas.{bytes_along}
use Rattle.region_model.specs.HandSteps.{hand_has}
use Rattle.region_model.specs.Iovecs.{gathered}
use Rattle.region_model.specs.Pending.{PendingData}
use Rattle.region_model.specs.Regions.{RegionState, size_of}
use Rattle.region_model.specs.Represents.{entry_at}
use Rattle.region_model.specs.Sides.{Carried, Copied, GivenJob, InHand, JobState, Moved, Recorded}
use Rattle.user_lib.specs.Given.{parked_job}

-- ==== items

-- a note has the field that counts its commands
abbrev pub HasCount : ItemKind → List ℕ → Type 0
HasCount kind.Pad entry = Unit {0}
HasCount kind.Cmd entry = Unit {0}
HasCount kind.Tmr entry = 16 ≤ length entry

-- each does, and each item has a byte, of items in ring order, of which the first begins at a ring offset
abbrev pub HaveCounts : List ℕ → ℕ → ℕ → List Recorded → Type 0
HaveCounts front ring at [] = Unit {0}
HaveCounts front ring at (x ∷ xs) = (1 ≤ x.len) × HasCount x.kind (entry_at front at x.len) × HaveCounts front ring ((at + x.len) % ring) xs

-- ==== payloads

-- the bytes that a job carries
abbrev pub carried_bytes : Carried → List ℕ
carried_bytes (Moved parts) = gathered parts
carried_bytes (Copied bytes) = bytes

-- the job in hand, or else another
abbrev pub job_or : Option InHand → Option JobState → Option JobState
job_or found other = elim (found) [ None ↦ other | Some h ↦ Some h.job ]

-- the job of a command of a serial and an id: in hand, or parked
abbrev pub job_kept : List InHand → List GivenJob → ℕ → ℕ → Option JobState
job_kept hand jobs id s = job_or (first_of (hand_has s) hand) (parked_job id jobs)

-- the first bytes of a job, where there is one, and else along blocks of the region
abbrev pub bytes_kept : RegionState → Option JobState → List ℕ → ℕ → List ℕ
bytes_kept r job blocks n = elim (job) [ None ↦ take n (bytes_along (size_of r) r.blocks blocks) | Some j ↦ take n (carried_bytes j.carried) ]

-- what a pending command of an id holds, where its payload has so many bytes
abbrev pub held_read : RegionState → List InHand → List GivenJob → ℕ → PendingData → ℕ → HeldData
held_read r hand jobs id e n = record { serial = e.serial; blocks = e.blocks; payload = bytes_kept r (job_kept hand jobs id e.serial) e.blocks n }

-- ==== lengths

-- the length of the payload of the command of a serial stands in the list
abbrev pub HasLength : List ℕ → ℕ → ℕ → Type 0
HasLength lengths s n = slice_get lengths (s - 1) ≡ Some n

abbrev pub LaidLength : List ℕ → Laid → Type 0
LaidLength lengths Pad = Unit {0}
LaidLength lengths (Cmd s c) = HasLength lengths s (payload_length c)
LaidLength lengths (Tmr type_ ss) = Unit {0}

-- by serial, from 1: those of all accepted commands, among these the laid and the delayed ones
pub record HasLengths (lengths : List ℕ) (d : DeviceState) : Type 0 where
  pub count : length lengths ≡ d.accepted
  pub laid : Every (λ x. LaidLength lengths x.laid) d.ring.laid
  pub delayed : Every (λ w. HasLength lengths w.serial (payload_length w.command)) d.delayed

-- with one more, where its command is accepted
abbrev pub with_length : List ℕ → CommandData → Submit → List ℕ
with_length lengths c (submit.Queued s) = lengths ++ payload_length c ∷ []
with_length lengths c (submit.Delayed s) = lengths ++ payload_length c ∷ []
with_length lengths c submit.Busy = lengths
with_length lengths c (submit.TooBig have limit) = lengths
with_length lengths c (submit.FullRing need free) = lengths
with_length lengths c (submit.FullBlocks need free) = lengths

-- the serial of an accepted command is the next one
abbrev pub HasNext : DeviceState → Submit → Type 0
HasNext d (submit.Queued s) = s ≡ d.accepted + 1
HasNext d (submit.Delayed s) = s ≡ d.accepted + 1
HasNext d submit.Busy = Unit {0}
HasNext d (submit.TooBig have limit) = Unit {0}
HasNext d (submit.FullRing need free) = Unit {0}
HasNext d (submit.FullBlocks need free) = Unit {0}

-- what a dump asks of them
abbrev pub TellsLengths : List ℕ → DeviceState → Type 0
TellsLengths lengths d = Every (λ u. HasLength lengths u.serial (payload_length u.command)) d.unfinished
