-- The user side as its callers see it.
use Rattle.std.specs.Prelude.{◌≡◌, ◌==◌, not, true, Result, Ok, Err}
use Rattle.std.specs.List.{list_any}
use Rattle.region_model.specs.Sides.{UserState}
use Rattle.region_model.specs.UserSteps.{is_open_job, moving, user_attached}
use Rattle.ring_laws.specs.Restarted.{count_parked}
use Rattle.ring_laws.specs.UserKept.{AreWholeJobs, IsWholeJob, UserCounts, UserSound}
use Rattle.user_lib.specs.Given.{LeadsOpen}
use Rattle.user_lib.specs.declared.numbers.UserNumbers.{UserNumbers}
use Rattle.user_lib.specs.declared.next.Next.{Next}
use Rattle.user_lib.specs.declared.next.Next.TheVariants as next
use Rattle.user_lib.specs.declared.next.UserFault.{UserFault}
use Rattle.user_lib.specs.declared.user.AttachFault.{AttachFault}
use Rattle.user_lib.specs.declared.user.AttachFault.TheVariants as attach_fault
use Rattle.region_model.specs.Regions.{RegionState}

-- what every user side keeps
pub record IsUser (u : UserState) : Type 0 where
  pub sound : UserSound u
  pub counts : UserCounts u
  pub whole : AreWholeJobs u
  pub first : LeadsOpen u

abbrev pub numbers_of : UserState → UserNumbers
numbers_of u =
    record {
      place = u.place;
      dispatched = u.dispatched;
      placed = u.placed;
      published = u.published;
      parked = count_parked u.jobs;
      moves = not (moving u == 0);
    }

-- a job that comes may be responded
abbrev pub CanRespondNext : UserState → Result Next UserFault → Type 0
CanRespondNext u (Ok (next.Job job)) = (list_any (is_open_job job.id) u.jobs ≡ true) × IsWholeJob u job
CanRespondNext u (Ok (next.Note type_ ids)) = Unit {0}
CanRespondNext u (Ok next.Nothing) = Unit {0}
CanRespondNext u (Err fault) = Unit {0}

-- an attach is refused just by a mailbox that breaks a rule
abbrev pub RefusesAttach : RegionState → AttachFault → Type 0
RefusesAttach r (attach_fault.Mailbox f) = user_attached r ≡ Err f
RefusesAttach r attach_fault.NoMemory = ⊥
