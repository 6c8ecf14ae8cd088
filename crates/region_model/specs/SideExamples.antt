-- Worked examples of the two sides' own steps: what waits, what expires, what a clean leaves in the region, and what an answer leaves of
-- the user side.
use Rattle.std.specs.Prelude.{◌≡◌, List, [], ◌∷◌, length, map, Ok, Err, Result}
use Rattle.tcmu_types.specs.declared.answer.Submit.TheVariants as submit
use Rattle.tcmu_types.specs.declared.answer.Publish.TheVariants.{Moved}
use Rattle.region_model.specs.declared.mailbox.MailboxFault.{MailboxFault}
use Rattle.region_model.specs.Regions.{RegionState, opening_region}
use Rattle.tcmu_model.specs.Examples.{dev, read_one}
use Rattle.region_model.specs.Sides.{TargetState, UserState, GivenJob}
use Rattle.region_model.specs.TargetSteps.{opening_target, target_submitted, target_ticked}
use Rattle.region_model.specs.TargetCleans.{Logged, target_clean_answer, target_cleaned, region_cleaned}
use Rattle.region_model.specs.UserSteps.{user_attached, user_responded, user_publish_answer}
use Rattle.region_model.specs.UserNext.{nexted}
use Rattle.region_model.specs.Hostile.{two_reads, with_tail, responded_at, serials_logged}
use Rattle.region_model.specs.Shown.{laid_region, job_of, reply_of}

-- ==== the target

-- a command for which room lacks waits for five moments
abbrev pub WaitsFive : Type 0
WaitsFive = map (λ w. w.leaves) (target_submitted (opening_target (record dev { qfull = 5 })) (read_one 1) 1 (submit.Delayed 1)).delayed ≡ 5 ∷ []

unfoldable pub both_expired : TargetState
both_expired = target_ticked two_reads.target 30

-- the first of two commands is answered
unfoldable pub one_answered : RegionState
one_answered = with_tail (responded_at two_reads.region 0 0 0 0) 128

-- commands expire once, and a late answer of theirs is not logged
pub record ExpireOnce : Type 0 where
  pub logged : serials_logged both_expired ≡ 1 ∷ 2 ∷ []
  pub again : serials_logged (target_ticked both_expired 1) ≡ 1 ∷ 2 ∷ []
  pub late : serials_logged (target_cleaned one_answered both_expired) ≡ 1 ∷ 2 ∷ []

-- a tail that has not moved cleans nothing; behind an answer the area still holds the other command's block
pub record CleansOne : Type 0 where
  pub idle : target_clean_answer two_reads.region two_reads.target ≡ Logged 0
  pub one : target_clean_answer one_answered two_reads.target ≡ Logged 1
  pub area : length (region_cleaned one_answered two_reads.target).blocks ≡ 2

-- ==== the user side

-- a job is dispatched, and an answer to it is placed or not
unfoldable pub user_dispatched : Result UserState MailboxFault → UserState → UserState
user_dispatched (Err fault) other = other
user_dispatched (Ok u) other = (nexted (laid_region dev) u).user

unfoldable pub user_answered : Result UserState MailboxFault → UserState → UserState
user_answered (Err fault) other = other
user_answered (Ok u) other =
    let n = nexted (laid_region dev) u in (user_responded n.region n.user (record { job = job_of n.answer; reply = reply_of })).user

unfoldable pub jobs_of : UserState → List GivenJob
jobs_of u = u.jobs

-- nothing is published before its answer is placed, and a job that is answered is gone
pub record Answers : Type 0 where
  pub early : (u : UserState) → user_publish_answer (user_dispatched (user_attached (opening_region dev)) u) ≡ Moved 0 0
  pub answered : (u : UserState) → user_publish_answer (user_answered (user_attached (opening_region dev)) u) ≡ Moved 1 1
  pub gone : (u : UserState) → jobs_of (user_answered (user_attached (opening_region dev)) u) ≡ []
