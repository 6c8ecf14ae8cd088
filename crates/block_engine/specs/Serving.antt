-- What serving a part of a request gives.
use Rattle.std.specs.Prelude.{◌≡◌, ℕ, ◌≤◌, true, length, Result, Ok, IfOk, OnErr}
use Rattle.tcmu_types.specs.Data.{ReplyData}
use Rattle.tcmu_types.specs.Numbered.{Rose}
use Rattle.edge.specs.Outside.{CountsFailed}
use Rattle.tcmu_model.specs.MediumState.{MediumState}
use Rattle.scsi_model.specs.Scsi.{Outcome, is_medium_error}
use Rattle.scsi_model.specs.declared.op.Op.{Op}
use Rattle.scsi_model.specs.declared.op.Op.TheVariants as op
use Rattle.scsi_model.specs.declared.op.CdbFault.{CdbFault}

-- The reply and the medium after it are what the meaning allows, and the payload is no longer than may be answered. Sense data say that
-- a call of the medium failed exactly where one more is counted. After want of memory nothing changed.
pub record Served {E : Type 0} (Meaning : Outcome) (in_len : ℕ) (old new : MediumState) (before after : ℕ) (result : Result ReplyData E) : Type 0 where
  pub allowed : IfOk result (λ r. Meaning r new)
  pub fits : IfOk result (λ r. length r.payload ≤ in_len)
  pub caused : IfOk result (λ r. is_medium_error r.sense ≡ true → Rose before after)
  pub exact : IfOk result (λ r. CountsFailed before (is_medium_error r.sense) after)
  pub later : before ≤ after
  pub same : OnErr result (new ≡ old)
  pub counted : OnErr result (after ≡ before)

-- where SYNCHRONIZE CACHE was asked for and is GOOD, this holds
abbrev pub IfSynced : {E : Type 0} → Result Op CdbFault → Result ReplyData E → Type 0 → Type 0
IfSynced (Ok (op.Sync lba count)) result P = IfOk result (λ r. r.status ≡ 0 → P)
IfSynced _ result P = Unit {0}
