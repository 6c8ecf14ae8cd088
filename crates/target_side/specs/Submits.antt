-- What a submit and an enter leave.
use Rattle.std.specs.Prelude.{◌≡◌, ℕ, ◌+◌}
use Rattle.tcmu_types.specs.Data.{CommandData}
use Rattle.tcmu_types.specs.declared.answer.Submit.{Submit}
use Rattle.tcmu_types.specs.declared.answer.Submit.TheVariants as submit
use Rattle.tcmu_types.specs.declared.answer.Enter.{Enter}
use Rattle.tcmu_types.specs.declared.answer.Enter.TheVariants as enter
use Rattle.region_model.specs.Regions.{RegionState}
use Rattle.region_model.specs.Sides.{TargetState}
use Rattle.region_model.specs.TargetSteps.{region_entered, region_submitted, target_entered, target_submitted}
use Rattle.ring_laws.specs.Calls.{IsFreeId}

-- the target and the region are those of the answer, for an id that is free where a command is laid
pub record Submitted (r : RegionState) (t : TargetState) (c : CommandData) (a : Submit) (r' : RegionState) (t' : TargetState) : Type 0 where
  pub id : ℕ
  pub free : (s : ℕ) → a ≡ submit.Queued s → IsFreeId t id
  pub target : t' ≡ target_submitted t c id a
  pub region : r' ≡ region_submitted r t c id a

pub record Entered (r : RegionState) (t : TargetState) (a : Enter) (r' : RegionState) (t' : TargetState) : Type 0 where
  pub id : ℕ
  pub free : (s : ℕ) → a ≡ enter.Entered s → IsFreeId t id
  pub target : t' ≡ target_entered t id a
  pub region : r' ≡ region_entered r t id a

-- a command is laid under the next serial
pub record Queues (r : RegionState) (t : TargetState) (c : CommandData) (serial : ℕ) (r' : RegionState) (t' : TargetState) : Type 0 where
  pub next : serial ≡ t.accepted + 1
  pub submitted : Submitted r t c (submit.Queued serial) r' t'

-- a command waits under the next serial
pub record Delays (t : TargetState) (c : CommandData) (serial : ℕ) (t' : TargetState) : Type 0 where
  pub next : serial ≡ t.accepted + 1
  pub target : (id : ℕ) → t' ≡ target_submitted t c id (submit.Delayed serial)
