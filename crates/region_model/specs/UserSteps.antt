-- What the calls of the user side do but for next: what each answers, and what it makes of the user side's state and of the region.
-- Each is a function of the user side's state and the region alone, over any bytes.
use Rattle.std.specs.Prelude.{ℕ, ◌+◌, ◌-◌, ◌/◌, ◌%◌, ◌==◌, ◌&&◌, not, Bool, true, false, List, [], ◌∷◌, length, take, drop, Option, Some, None, Result, Ok, Err, if◌then◌else◌}
use Rattle.std.specs.List.{sum_by, count_by, list_all}
use Rattle.std.specs.Option.{is_some}
use Rattle.tcmu_types.specs.Data.{SettingsData}
use Rattle.tcmu_types.specs.declared.settings.Flags.{Flags}
use Rattle.tcmu_types.specs.declared.dump.ItemKind.TheVariants as kind
use Rattle.tcmu_types.specs.declared.iovec.Iov.{Iov}
use Rattle.tcmu_types.specs.declared.answer.Respond.{Respond}
use Rattle.tcmu_types.specs.declared.answer.Respond.TheVariants as respond
use Rattle.tcmu_types.specs.declared.answer.Publish.{Publish}
use Rattle.tcmu_types.specs.declared.answer.Publish.TheVariants as publish
use Rattle.region_model.specs.declared.mailbox.Mailbox.{Mailbox}
use Rattle.region_model.specs.declared.mailbox.MailboxFault.{MailboxFault}
use Rattle.region_model.specs.declared.mailbox.MailboxFault.TheVariants.{Size}
use Rattle.tcmu_types.specs.Lists.{first_of, without_first, with_first}
use Rattle.region_model.specs.Layout.{tail_place, device_mailbox, with_response}
use Rattle.tcmu_types.specs.ByteFields.{le, put}
use Rattle.region_model.specs.MailboxReading.{mailbox_read}
use Rattle.region_model.specs.EntryReading.{lies_inside}
use Rattle.region_model.specs.Iovecs.{scattered}
use Rattle.region_model.specs.Regions.{RegionState, bytes_of, given_back, copied_in}
use Rattle.region_model.specs.Picture.{told_length}
use Rattle.region_model.specs.Sides.{Recorded, Carried, Moved, Copied, JobState, Parked, GivenJob, UserState}

-- ==== attach

-- the ring size that the region was made with
abbrev pub ring_size : RegionState → ℕ
ring_size r = length r.front - 4096

-- the mailbox, with the ring size that the region has
abbrev pub of_size : ℕ → Result Mailbox MailboxFault → Result Mailbox MailboxFault
of_size ring (Err fault) = Err fault
of_size ring (Ok m) = if m.cmdr_size == ring then Ok m else Err (Size m.cmdr_size)

unfoldable pub user_mailbox : RegionState → Result Mailbox MailboxFault
user_mailbox r = of_size (ring_size r) (mailbox_read r.front)

abbrev pub flags_in : ℕ → Flags
flags_in bits = record { ooo = bits % 2 == 1; read_len = bits / 2 % 2 == 1; tmr = bits / 4 % 2 == 1 }

abbrev pub user_of : ℕ → Mailbox → UserState
user_of pages m =
    record {
      ring = m.cmdr_size;
      pages = pages;
      flags = flags_in m.flags;
      place = m.tail;
      tail = m.tail;
      jobs = [];
      offsets = [];
      items = [];
      dispatched = 0;
      placed = 0;
      published = 0;
    }

-- attached to a region as it opens
unfoldable pub opening_user : SettingsData → UserState
opening_user s = user_of s.pages (device_mailbox s.flags s.ring 0 0)

abbrev pub attached_to : ℕ → Result Mailbox MailboxFault → Result UserState MailboxFault
attached_to pages (Err fault) = Err fault
attached_to pages (Ok m) = Ok (user_of pages m)

unfoldable pub user_attached : RegionState → Result UserState MailboxFault
user_attached r = attached_to r.pages (user_mailbox r)

-- ==== the data of an answer

-- all iovecs lie in the data area, as it is now
abbrev pub lie_in_area : RegionState → List Iov → Bool
lie_in_area r iovs = list_all (lies_inside (length r.front) (length (bytes_of r))) iovs

-- a job's blocks take the payload and go back; where it has a copy, the payload is written where its iovecs all are in the area
abbrev pub with_payload : RegionState → List Iov → Carried → List ℕ → RegionState
with_payload r iovs (Moved parts) payload = given_back r iovs (scattered parts payload)
with_payload r iovs (Copied bytes) payload = if lie_in_area r iovs then copied_in r iovs payload else r

-- ==== respond

-- what an answer that is placed changes
pub record Placing : Type 0 where
  pub region : RegionState
  pub user : UserState

abbrev pub answered_region : RegionState → UserState → ℕ → Parked → RegionState
answered_region r u at p =
    let given = with_payload r p.job.iovs p.job.carried p.reply.payload in
    record given { front = with_response given.front at p.job.id p.reply (told_length u.flags.read_len p.job.cdb p.reply) }

-- an answer is placed in the first entry that is not yet used, whosever it is; its job is no longer among the others
abbrev pub placed_at : Placing → Parked → List GivenJob → List ℕ → Placing
placed_at k p rest [] = k
placed_at k p rest (at ∷ ats) =
    record {
      region = answered_region k.region k.user at p;
      user = record k.user { jobs = rest; offsets = ats; placed = k.user.placed + 1 };
    }

abbrev pub placed_one : Placing → Parked → List GivenJob → Placing
placed_one k p rest = placed_at k p rest k.user.offsets

-- the longest front of jobs that have their replies
abbrev pub placed_front : Placing → List GivenJob → Placing
placed_front k [] = k
placed_front k (g ∷ gs) = elim (g.parked) [ None ↦ k | Some p ↦ placed_front (placed_one k p gs) gs ]

-- given under this id, and not responded
abbrev pub is_open_job : ℕ → GivenJob → Bool
is_open_job id g = (g.id == id) && not (is_some g.parked)

abbrev pub with_parked : Parked → GivenJob → GivenJob
with_parked p g = record g { parked = Some p }

abbrev pub with_jobs : UserState → List GivenJob → UserState
with_jobs u jobs = record u { jobs = jobs }

-- out of order the answer is placed at once; in order it is parked, and then all are placed up to the first job without a reply
abbrev pub placing_by : Bool → RegionState → UserState → Parked → Placing
placing_by true r u p = placed_one (record { region = r; user = u }) p (without_first (is_open_job p.job.id) u.jobs)
placing_by false r u p =
    let jobs = with_first (is_open_job p.job.id) (with_parked p) u.jobs in placed_front (record { region = r; user = with_jobs u jobs }) jobs

unfoldable pub user_responded : RegionState → UserState → Parked → Placing
user_responded r u p = placing_by u.flags.ooo r u p

abbrev pub is_unanswered : GivenJob → Bool
is_unanswered g = not (is_some g.parked)

-- in order an answer is placed just where its job is the first without a reply
abbrev pub placed_or_parked : ℕ → Option GivenJob → Respond
placed_or_parked id None = respond.Parked
placed_or_parked id (Some g) = if g.id == id then respond.Placed else respond.Parked

unfoldable pub user_respond_answer : UserState → ℕ → Respond
user_respond_answer u id = if u.flags.ooo then respond.Placed else placed_or_parked id (first_of is_unanswered u.jobs)

-- ==== publish

abbrev pub is_cmd : Recorded → Bool
is_cmd x = elim (x.kind) [ kind.Pad ↦ false | kind.Cmd ↦ true | kind.Tmr ↦ false ]

-- the length of the longest front with no more than n commands
abbrev pub movable : ℕ → List Recorded → ℕ
movable n [] = 0
movable n (x ∷ xs) = if is_cmd x then (if n == 0 then 0 else movable (n - 1) xs + 1) else movable n xs + 1

abbrev pub moving : UserState → ℕ
moving u = movable (u.placed - u.published) u.items

abbrev pub moving_items : UserState → List Recorded
moving_items u = take (moving u) u.items

unfoldable pub user_publish_answer : UserState → Publish
user_publish_answer u = publish.Moved (moving u) (count_by is_cmd (moving_items u))

unfoldable pub user_published : UserState → UserState
user_published u =
    record u {
      items = drop (moving u) u.items;
      tail = (u.tail + sum_by (λ x. x.len) (moving_items u)) % u.ring;
      published = u.published + count_by is_cmd (moving_items u);
    }

-- the mailbox's tail is written only where an item moves
unfoldable pub region_published : RegionState → UserState → RegionState
region_published r u = if moving u == 0 then r else record r { front = put r.front tail_place (le 4 (user_published u).tail) }

-- ==== abandon, reattach, detach

-- the blocks that a job has go back as they are
abbrev pub with_job_back : RegionState → JobState → RegionState
with_job_back r job = elim (job.carried) [ Moved parts ↦ given_back r job.iovs parts | Copied bytes ↦ r ]

abbrev pub with_parked_back : RegionState → Option Parked → RegionState
with_parked_back r None = r
with_parked_back r (Some p) = with_job_back r p.job

-- those of all parked jobs do
unfoldable pub region_abandoned : RegionState → List GivenJob → RegionState
region_abandoned r [] = r
region_abandoned r (g ∷ gs) = region_abandoned (with_parked_back r g.parked) gs

-- every job is given up; place and offsets stay
unfoldable pub user_abandoned : UserState → UserState
user_abandoned u = record u { jobs = [] }

-- refused just where attach is, and then nothing changes
abbrev pub or_refused : RegionState → List GivenJob → Result UserState MailboxFault → RegionState
or_refused r jobs (Err fault) = r
or_refused r jobs (Ok u) = region_abandoned r jobs

unfoldable pub region_reattached : RegionState → UserState → RegionState
region_reattached r u = or_refused r u.jobs (user_attached r)
