-- What placing an answer asks for.
use Rattle.std.specs.Prelude.{◌≡◌, ℕ, ◌+◌, ◌≤◌, Bool, List, ◌∷◌, length, Option, Some, None, ◌==◌, if◌then◌else◌}
use Rattle.tcmu_types.specs.declared.answer.Respond.{Respond}
use Rattle.tcmu_types.specs.declared.answer.Respond.TheVariants as respond
use Rattle.tcmu_types.specs.declared.iovec.Iov.{Iov}
use Rattle.region_model.specs.Layout.{with_response}
use Rattle.region_model.specs.Picture.{told_length}
use Rattle.region_model.specs.UserSteps.{with_payload}
use Rattle.region_model.specs.Regions.{HaveSize, RegionState, named_by, size_of}
use Rattle.region_model.specs.Sides.{Carried, Moved, Parked, UserState}

-- the blocks that go back are as many as their iovecs name, each of a block's size
abbrev pub GoesBack : RegionState → List Iov → Carried → Type 0
GoesBack r iovs carried = (parts : List (List ℕ)) → carried ≡ Moved parts → HaveSize (size_of r) parts × (length parts ≡ length (named_by r iovs))

-- a region with the answer of a job in the entry at a ring offset
abbrev pub answered_with : RegionState → Bool → ℕ → Parked → RegionState
answered_with r read_len at p =
    let given = with_payload r p.job.iovs p.job.carried p.reply.payload in
    record given { front = with_response given.front at p.job.id p.reply (told_length read_len p.job.cdb p.reply) }

-- an entry is left for an answer
pub record CanAnswer (u : UserState) : Type 0 where
  pub entry : 1 ≤ length u.offsets
  pub counted : u.placed + length u.offsets ≡ u.dispatched

-- the first job leaves the user side with its reply
pub record TakesParked (u : UserState) (p : Parked) (after : UserState) : Type 0 where
  pub id : ℕ
  pub jobs : u.jobs ≡ record { id = id; parked = Some p } ∷ after.jobs
  pub user : after ≡ record u { jobs = after.jobs }

-- so do those of a job that is parked
abbrev pub AreBack : RegionState → Option Parked → Type 0
AreBack r None = Unit {0}
AreBack r (Some p) = GoesBack r p.job.iovs p.job.carried

-- placed where the first job without a reply has this id
abbrev pub answer_by : Option ℕ → ℕ → Respond
answer_by None id = respond.Parked
answer_by (Some first) id = if first == id then respond.Placed else respond.Parked
