-- Worked examples: what the two sides make of bytes that the other one has no right to write.
use Rattle.std.specs.Prelude.{◌≡◌, ℕ, ◌+◌, true, List, [], ◌∷◌, ◌++◌, map, replicate, slice_index, Some, None, Ok, Err, Result}
use Rattle.tcmu_types.specs.Data.{CommandData, ReplyData}
use Rattle.tcmu_types.specs.declared.iovec.Iov.{Iov}
use Rattle.region_model.specs.declared.mailbox.MailboxFault.{MailboxFault}
use Rattle.region_model.specs.declared.mailbox.MailboxFault.TheVariants as mailbox
use Rattle.region_model.specs.declared.entry.EntryFault.TheVariants as entry
use Rattle.region_model.specs.Layout.{ring_start, head_place, tail_place, answer_bytes, command_bytes, tmr_bytes, with_response}
use Rattle.tcmu_types.specs.ByteFields.{le, put}
use Rattle.region_model.specs.Regions.{RegionState, opening_region, grown_to, shrunk_to}
use Rattle.tcmu_model.specs.Examples.{dev, read_one}
use Rattle.region_model.specs.Sides.{TargetState, Copied, JobState, UserState}
use Rattle.region_model.specs.TargetSteps.{opening_target, target_submit_answer, target_submitted, region_submitted, target_blocked}
use Rattle.region_model.specs.TargetCleans.{Logged, BadTail, Broken, target_clean_answer, target_cleaned, target_reset}
use Rattle.region_model.specs.UserSteps.{user_attached, user_responded}
use Rattle.region_model.specs.UserNext.{NextAnswer, Job, Note, Nothing, BadMailbox, BadEntry, nexted}

-- ==== the target

pub record Targeted : Type 0 where
  pub region : RegionState
  pub target : TargetState

unfoldable pub with_submitted : Targeted → CommandData → ℕ → Targeted
with_submitted x c id =
    record {
      region = region_submitted x.region x.target c id (target_submit_answer x.target c);
      target = target_submitted x.target c id (target_submit_answer x.target c);
    }

-- two reads of a block, under the ids 1 and 2; each entry has 128 bytes
unfoldable pub two_reads : Targeted
two_reads = with_submitted (with_submitted (record { region = opening_region dev; target = opening_target dev }) (read_one 1) 1) (read_one 2) 2

-- bytes written by a hand that keeps no rule
unfoldable pub scrawled : RegionState → ℕ → List ℕ → RegionState
scrawled r at bytes = record r { front = put r.front at bytes }

unfoldable pub with_tail : RegionState → ℕ → RegionState
with_tail r n = scrawled r tail_place (le 4 n)

unfoldable pub cleaned_once : Targeted → RegionState → TargetState
cleaned_once x r = target_cleaned r x.target

unfoldable pub serials_logged : TargetState → List ℕ
serials_logged t = map (λ e. e.serial) t.log

unfoldable pub statuses_logged : TargetState → List ℕ
statuses_logged t = map (λ e. e.status) t.log

unfoldable pub id_zero : RegionState
id_zero = with_tail (scrawled two_reads.region (ring_start + 4) (le 2 0)) 128

-- an id that no command has is named twice, nothing is logged, and a reset still completes both commands
pub record IdOfNone : Type 0 where
  pub first : target_clean_answer id_zero two_reads.target ≡ Broken 0
  pub again : target_clean_answer id_zero (cleaned_once two_reads id_zero) ≡ Broken 0
  pub log : serials_logged (cleaned_once two_reads id_zero) ≡ []
  pub reset : serials_logged (target_reset id_zero (target_blocked (cleaned_once two_reads id_zero) true) 1) ≡ 1 ∷ 2 ∷ []
  pub busy : statuses_logged (target_reset id_zero (target_blocked (cleaned_once two_reads id_zero) true) 1) ≡ 8 ∷ 8 ∷ []

-- a tail inside an entry
pub record TailInside : Type 0 where
  pub answer : target_clean_answer (with_tail two_reads.region 8) two_reads.target ≡ BadTail 8
  pub same : target_cleaned (with_tail two_reads.region 8) two_reads.target ≡ two_reads.target

unfoldable pub responded_at : RegionState → ℕ → ℕ → ℕ → ℕ → RegionState
responded_at r at uflags status read_len = scrawled r (ring_start + at + 7) (answer_bytes uflags status read_len [])

unfoldable pub one_id_twice : RegionState
one_id_twice = with_tail (responded_at (responded_at (scrawled two_reads.region (ring_start + 128 + 4) (le 2 1)) 0 0 0 0) 128 0 0 0) 256

-- the first command's id in both entries completes it once
pub record IdTwice : Type 0 where
  pub answer : target_clean_answer one_id_twice two_reads.target ≡ Broken 1
  pub log : serials_logged (cleaned_once two_reads one_id_twice) ≡ 1 ∷ []

unfoldable pub huge_length : RegionState
huge_length = with_tail (responded_at two_reads.region 0 2 0 4294967295) 128

unfoldable pub payloads_logged : TargetState → List (List ℕ)
payloads_logged t = map (λ e. e.payload) t.log

-- a length above what was asked for counts as that
pub record LengthPastData : Type 0 where
  pub answer : target_clean_answer huge_length two_reads.target ≡ Logged 1
  pub payload : payloads_logged (cleaned_once two_reads huge_length) ≡ replicate 512 0 ∷ []

unfoldable pub said_unknown : RegionState
said_unknown = with_tail (responded_at two_reads.region 0 1 0 0) 128

-- an entry that the user side did not know: HARDWARE ERROR, INTERNAL TARGET FAILURE
pub record SaidUnknown : Type 0 where
  pub answer : target_clean_answer said_unknown two_reads.target ≡ Logged 1
  pub status : statuses_logged (cleaned_once two_reads said_unknown) ≡ 2 ∷ []
  pub sense : map (λ e. e.sense) (cleaned_once two_reads said_unknown).log ≡ Some (record { key = 4; asc = 0x44; ascq = 0 }) ∷ []

-- ==== the user side

unfoldable pub next_twice : RegionState → Result UserState MailboxFault → List NextAnswer
next_twice r (Err fault) = []
next_twice r (Ok u) = (nexted r u).answer ∷ (nexted (nexted r u).region (nexted r u).user).answer ∷ []

unfoldable pub region_next : RegionState → Result UserState MailboxFault → RegionState
region_next r (Err fault) = r
region_next r (Ok u) = (nexted r u).region

-- it attaches to a fresh region, and then finds these bytes in the front
unfoldable pub finds_twice : RegionState → List NextAnswer
finds_twice r = next_twice r (user_attached (opening_region dev))

unfoldable pub with_head : RegionState → ℕ → RegionState
with_head r n = scrawled r head_place (le 4 n)

unfoldable pub with_len_op : ℕ → RegionState
with_len_op n = scrawled (opening_region dev) ring_start (le 4 n)

abbrev pub NoLength : Type 0
NoLength = finds_twice (with_head (with_len_op 1) 8) ≡ BadEntry 0 (entry.BadLength 0) ∷ BadEntry 0 (entry.BadLength 0) ∷ []

abbrev pub HeadUnaligned : Type 0
HeadUnaligned = finds_twice (with_head (opening_region dev) 9) ≡ BadMailbox (mailbox.Unaligned 9) ∷ BadMailbox (mailbox.Unaligned 9) ∷ []

-- an opcode of none is passed, and marked
pub record OpUnknown : Type 0 where
  pub answer : finds_twice (with_head (with_len_op 15) 8) ≡ Nothing ∷ Nothing ∷ []
  pub marked : slice_index (region_next (with_head (with_len_op 15) 8) (user_attached (opening_region dev))).front (ring_start + 7) ≡ 1

unfoldable pub reading : Iov → List ℕ
reading iov = command_bytes 0 1 1 (iov ∷ []) (read_one 1).cdb

abbrev pub IovecBefore : Type 0
IovecBefore =
    finds_twice (with_head (scrawled (opening_region dev) ring_start (reading (record { base = 0; len = 8 }))) 128)
    ≡ BadEntry 0 (entry.IovOutside 0) ∷ BadEntry 0 (entry.IovOutside 0) ∷ []

abbrev pub OtherSize : Type 0
OtherSize = finds_twice (scrawled (opening_region dev) 8 (le 4 8192)) ≡ BadMailbox (mailbox.Size 8192) ∷ BadMailbox (mailbox.Size 8192) ∷ []

-- ==== a copied job whose block goes away

-- its one iovec begins inside a block, so the block is not lent
unfoldable pub iovec_inside : RegionState
iovec_inside = with_head (scrawled (grown_to (opening_region dev) 1) ring_start (reading (record { base = 8200; len = 512 }))) 128

unfoldable pub inside_job : JobState
inside_job = record { id = 1; cdb = (read_one 1).cdb; iovs = record { base = 8200; len = 512 } ∷ []; carried = Copied []; in_len = 512 }

unfoldable pub good_reply : ReplyData
good_reply = record { status = 0; sense = None; payload = 1 ∷ 2 ∷ 3 ∷ [] }

unfoldable pub then_responds : Result UserState MailboxFault → RegionState
then_responds (Err fault) = iovec_inside
then_responds (Ok u) =
    (user_responded (shrunk_to (nexted iovec_inside u).region 0) (nexted iovec_inside u).user (record { job = inside_job; reply = good_reply })).region

unfoldable pub first_next : RegionState → Result UserState MailboxFault → NextAnswer
first_next r (Err fault) = Nothing
first_next r (Ok u) = (nexted r u).answer

-- the response is written, and nothing else
pub record AreaGone : Type 0 where
  pub job : first_next iovec_inside (user_attached (opening_region dev)) ≡ Job inside_job
  pub only : then_responds (user_attached (opening_region dev))
      ≡ record (shrunk_to iovec_inside 0) { front = with_response iovec_inside.front 0 1 good_reply None }

-- ==== a copied job whose block stays

unfoldable pub answers_inside : Result UserState MailboxFault → RegionState
answers_inside (Err fault) = iovec_inside
answers_inside (Ok u) =
    (user_responded (nexted iovec_inside u).region (nexted iovec_inside u).user (record { job = inside_job; reply = good_reply })).region

-- the block's bytes from 8 on take the payload, the response is written, and nothing else
pub record AreaThere : Type 0 where
  pub only : answers_inside (user_attached (opening_region dev))
      ≡ record iovec_inside {
        front = with_response iovec_inside.front 0 1 good_reply None;
        blocks = Some (replicate 8 0 ++ 1 ∷ 2 ∷ 3 ∷ replicate 4085 0) ∷ [];
      }

-- WRITE(10) of one logical block
unfoldable pub write_cdb : List ℕ
write_cdb = 0x2a ∷ 0 ∷ 0 ∷ 0 ∷ 0 ∷ 0 ∷ 0 ∷ 0 ∷ 1 ∷ 0 ∷ []

unfoldable pub full_block : List ℕ
full_block = replicate 4096 7

-- a write whose one iovec begins inside a block that is full
unfoldable pub write_inside : RegionState
write_inside =
    with_head
    (scrawled (record (opening_region dev) { blocks = Some full_block ∷ [] }) ring_start
    (command_bytes 0 1 1 (record { base = 8200; len = 512 } ∷ []) write_cdb))
    128

-- the job has the bytes that its iovec names, copied
abbrev pub CopiesOut : Type 0
CopiesOut =
    first_next write_inside (user_attached (opening_region dev))
    ≡ Job (record { id = 1; cdb = write_cdb; iovs = record { base = 8200; len = 512 } ∷ []; carried = Copied (replicate 512 7); in_len = 0 })

-- ==== a note that names a command more than once

-- behind the entry of that job, a task management entry that names it three times, and an id that no job has once
unfoldable pub named_again : RegionState
named_again = with_head (scrawled iovec_inside (ring_start + 128) (tmr_bytes 1 (1 ∷ 1 ∷ 9 ∷ 1 ∷ []))) 168

-- the note has the id as often as the entry
abbrev pub NotesAgain : Type 0
NotesAgain = finds_twice named_again ≡ Job inside_job ∷ Note 1 (1 ∷ 1 ∷ 1 ∷ []) ∷ []
