-- What the user side keeps over any bytes that the target left, and which bytes of the region it changes.
use Rattle.std.specs.Prelude.{◌≡◌, ◌≢◌, ◌⊎◌, ℕ, ◌+◌, ◌-◌, ◌%◌, ◌≤◌, ◌<◌, List, drop, length, slice_get, Option, Some}
use Rattle.std.specs.List.{count_by, sum_by}
use Rattle.region_model.specs.Layout.{ring_start, data_start, tail_place}
use Rattle.tcmu_types.specs.Rules.{IsRingSize}
use Rattle.region_model.specs.EntryReading.{op_at}
use Rattle.tcmu_model.specs.Lengths.{block_size}
use Rattle.region_model.specs.Regions.{HaveSize, RegionState, numbers_of}
use Rattle.tcmu_types.specs.Lists.{Every}
use Rattle.region_model.specs.Sides.{JobState, Moved, Parked, UserState}
use Rattle.ring_laws.specs.RingKept.{IsPlace}
use Rattle.region_model.specs.UserSteps.{is_cmd}
use Rattle.region_model.specs.UserNext.{NextAnswer, Job, Note, Nothing, BadMailbox, BadEntry, region_lent}

-- ==== the user side's own records

pub record UserSound (u : UserState) : Type 0 where
  pub ring : IsRingSize u.ring
  pub place : IsPlace u.ring u.place
  pub tail : IsPlace u.ring u.tail
  pub items : Every (λ x. x.len % 8 ≡ 0) u.items
  -- a response fits at each kept offset
  pub offsets : Every (λ at. at + 112 ≤ u.ring) u.offsets

-- the user side's counts and its records are of the same entries
pub record UserCounts (u : UserState) : Type 0 where
  -- the next entry begins where the items that were passed end
  pub reach : u.place ≡ (u.tail + sum_by (λ x. x.len) u.items) % u.ring
  -- each command that was passed has its entry, used for an answer or kept
  pub entries : u.placed + length u.offsets ≡ u.dispatched
  -- each job has an entry that is kept
  pub owed : length u.jobs ≤ length u.offsets
  pub commands : u.published + count_by is_cmd u.items ≡ u.dispatched
  -- no command's entry is published that has no answer
  pub behind : u.published ≤ u.placed

-- as many entries, the first that were kept, are used as jobs have their answers in them
pub record UsesEntries (u after : UserState) (k : ℕ) : Type 0 where
  pub offsets : after.offsets ≡ drop k u.offsets
  pub placed : after.placed ≡ u.placed + k
  pub jobs : length after.jobs + k ≡ length u.jobs

-- a region of the ring size that the user side read when it was attached
abbrev pub HasRing : RegionState → UserState → Type 0
HasRing r u = length r.front ≡ data_start u.ring

-- a region whose blocks have as many pages as the user side read when it was attached
abbrev pub HasPages : RegionState → UserState → Type 0
HasPages r u = r.pages ≡ u.pages

-- ==== jobs

-- the blocks that a job has are as many as its iovecs name, each of a block's size
abbrev pub IsWholeJob : UserState → JobState → Type 0
IsWholeJob u job =
    (parts : List (List ℕ)) → job.carried ≡ Moved parts →
    HaveSize (block_size u.pages) parts × (length parts ≡ length (numbers_of (data_start u.ring) (block_size u.pages) job.iovs))

-- so are those of each job that has its reply
abbrev pub AreWholeJobs : UserState → Type 0
AreWholeJobs u = Every (λ g. (p : Parked) → g.parked ≡ Some p → IsWholeJob u p.job) u.jobs

-- ==== a fault

-- a fault of the mailbox or of an entry
abbrev pub IsFault : NextAnswer → Type 0
IsFault (Job job) = ⊥
IsFault (Note type_ ids) = ⊥
IsFault Nothing = ⊥
IsFault (BadMailbox fault) = Unit {0}
IsFault (BadEntry at fault) = Unit {0}

-- ==== what changes of a region

-- a byte gets its lowest bit, which it lacked: it is byte 7 of an entry whose operation code is none of the three
pub record SetsBit (front after : List ℕ) (i : ℕ) : Type 0 where
  pub byte : ℕ
  pub was : slice_get front i ≡ Some byte
  pub clear : byte % 2 ≡ 0
  pub now_set : slice_get after i ≡ Some (byte + 1)
  pub behind : ring_start + 7 ≤ i
  pub place : i % 8 ≡ 7
  pub unknown : 2 < op_at front (i - 7)

abbrev pub OnlySetsBits : List ℕ → List ℕ → Type 0
OnlySetsBits front after = (i : ℕ) → (slice_get after i ≡ slice_get front i) ⊎ SetsBit front after i

-- the blocks behind a next: just those of its job's iovecs are lent, where they can be
abbrev pub blocks_behind : RegionState → NextAnswer → List (Option (List ℕ))
blocks_behind r (Job job) = (region_lent r job.iovs).blocks
blocks_behind r (Note type_ ids) = r.blocks
blocks_behind r Nothing = r.blocks
blocks_behind r (BadMailbox fault) = r.blocks
blocks_behind r (BadEntry at fault) = r.blocks

-- a byte of the id, or one of bytes 7 to 111, of the entry at a ring offset
pub record IsAnswered (i at : ℕ) : Type 0 where
  pub from_ : ring_start + at + 4 ≤ i
  pub to : i < ring_start + at + 112
  pub but : i ≢ ring_start + at + 6

-- no byte changes but in the answers of the entries at these offsets
abbrev pub OnlyAnswers : List ℕ → List ℕ → List ℕ → Type 0
OnlyAnswers offsets front after = (i : ℕ) → Every (λ at. ¬ IsAnswered i at) offsets → slice_get after i ≡ slice_get front i

-- no byte changes but the four of the mailbox's tail
abbrev pub OnlyTail : List ℕ → List ℕ → Type 0
OnlyTail front after = (i : ℕ) → (i < tail_place) ⊎ (tail_place + 4 ≤ i) → slice_get after i ≡ slice_get front i
