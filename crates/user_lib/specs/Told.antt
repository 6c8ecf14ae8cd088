-- What a next leaves.
use Rattle.std.specs.Prelude.{◌≡◌, ℕ, suc, ◌+◌, List, ◌++◌, Result, Ok, Err}
use Rattle.region_model.specs.declared.mailbox.Mailbox.{Mailbox}
use Rattle.region_model.specs.Regions.{RegionState}
use Rattle.region_model.specs.Sides.{JobState, Recorded, UserState}
use Rattle.region_model.specs.Layout.{ring_start}
use Rattle.region_model.specs.UserSteps.{user_mailbox}
use Rattle.region_model.specs.UserNext.{Nexted, NextAnswer, BadMailbox, BadEntry, nexted, next_within, iovs_in, job_read, region_lent, with_job, note_next, tmr_ids_in}
use Rattle.user_lib.specs.declared.next.Next.{Next}
use Rattle.user_lib.specs.declared.next.UserFault.{UserFault}
use Rattle.user_lib.specs.declared.next.UserFault.TheVariants as fault
use Rattle.user_lib.specs.declared.next.Step.{Step}
use Rattle.user_lib.specs.declared.next.Step.TheVariants as step
use Rattle.user_lib.specs.Views.{next_data}

-- from a place on a next comes to another, through so many entries that it passes
abbrev pub Passes : Mailbox → ℕ → RegionState → UserState → RegionState → UserState → Type 0
Passes m count r u r' u' = (k n : ℕ) (before : UserState) → k ≡ n + count → next_within k m before r u ≡ next_within n m before r' u'

-- where memory was wanting: padding and unknown entries were passed, of which only the region shows something
pub record Stopped (r : RegionState) (u : UserState) (left : RegionState) (after : UserState) : Type 0 where
  pub user : after ≡ u
  pub mailbox : Mailbox
  pub read : user_mailbox r ≡ Ok mailbox
  pub count : ℕ
  pub there : UserState
  pub passed : Passes mailbox count r u left there

-- the answer, the region and the user side are those of a next
pub record IsNexted (n : Nexted) (a : NextAnswer) (left : RegionState) (after : UserState) : Type 0 where
  pub answer : n.answer ≡ a
  pub region : n.region ≡ left
  pub user : n.user ≡ after

abbrev pub Told : RegionState → UserState → Result Next UserFault → RegionState → UserState → Type 0
Told r u (Ok next) left after = IsNexted (nexted r u) (next_data next) left after
Told r u (Err (fault.BadMailbox f)) left after = IsNexted (nexted r u) (BadMailbox f) left after
Told r u (Err (fault.BadEntry at f)) left after = IsNexted (nexted r u) (BadEntry at f) left after
Told r u (Err fault.NoMemory) left after = Stopped r u left after

-- a command's entry gives its job
pub record GivesJob (r : RegionState) (u : UserState) (len id count : ℕ) (cdb : List ℕ) (j : JobState) (left : RegionState) (after : UserState) : Type 0 where
  pub job : j ≡ job_read r id (iovs_in r.front (ring_start + u.place) 0 count) cdb
  pub region : left ≡ region_lent r (iovs_in r.front (ring_start + u.place) 0 count)
  pub user : after ≡ with_job u len id

-- a task management entry gives its note
pub record GivesNote (r : RegionState) (u : UserState) (len type_ count : ℕ) (next : Next) (after : UserState) : Type 0 where
  pub answer : next_data next ≡ (note_next r u len type_ (tmr_ids_in r.front (ring_start + u.place) 0 count)).answer
  pub user : after ≡ (note_next r u len type_ (tmr_ids_in r.front (ring_start + u.place) 0 count)).user

-- why a next ends there
abbrev pub StopsBy : Mailbox → RegionState → UserState → UserFault → Type 0
StopsBy m r u (fault.BadMailbox f) = ⊥
StopsBy m r u (fault.BadEntry at f) = (n : ℕ) (before : UserState) → next_within (suc n) m before r u ≡ record { answer = BadEntry at f; region = r; user = before }
StopsBy m r u fault.NoMemory = Unit {0}

-- a user side that has only passed entries
pub record WentOn (u after : UserState) : Type 0 where
  pub more : List Recorded
  pub items : after.items ≡ u.items ++ more
  pub same : record after { place = u.place; items = u.items } ≡ u

-- one entry is passed, or it is what comes, or the next ends there
abbrev pub StepTold : Mailbox → RegionState → UserState → Step → RegionState → UserState → Type 0
StepTold m r u step.Passed r' u' = ((n : ℕ) (before : UserState) → next_within (suc n) m before r u ≡ next_within n m before r' u') × WentOn u u'
StepTold m r u (step.Came next) r' u' = (n : ℕ) (before : UserState) → next_within (suc n) m before r u ≡ record { answer = next_data next; region = r'; user = u' }
StepTold m r u (step.Stopped f) r' u' = (r' ≡ r) × (u' ≡ u) × StopsBy m r u f
