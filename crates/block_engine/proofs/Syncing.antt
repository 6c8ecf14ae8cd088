-- A SYNCHRONIZE CACHE that is GOOD synced its medium.
use Rattle.std.proofs.Common.{◌≡◌, ℕ, Bool, true, false, List, [], Option, Some, None, MatchOption, Result, Ok, Err, IfOk, sym, ap, subst, ◌∙◌, arith, if◌then◌else◌}
use Rattle.tcmu_types.specs.Data.{SenseData, ReplyData}
use Rattle.tcmu_model.specs.MediumState.{MediumState}
use Rattle.scsi_model.specs.Medium.{Syncs}
use Rattle.scsi_model.specs.Runs.{IsSynced}
use Rattle.scsi_model.specs.Senses.{write_error}
use Rattle.scsi_model.specs.Scsi.{Answers, Calls, first_failed, range_checks, good, refused, ServesOp}
use Rattle.scsi_model.specs.declared.op.Op.{Op}
use Rattle.scsi_model.specs.declared.op.Op.TheVariants as op
use Rattle.scsi_model.specs.declared.op.CdbFault.{CdbFault}
use Rattle.scsi_model.proofs.Syncing.{syncs_reach}
use Rattle.block_engine.specs.Serving.{IfSynced}

-- a refusal is not GOOD
not_good : {X : Type 0} (r : ReplyData) (s : SenseData) → r ≡ refused s → r.status ≡ 0 → X
not_good r s e g = absurd (let z : 2 ≡ 0 = sym (ap (λ (x : ReplyData). x.status) e) ∙ g in omega (arith, z))

sync_called : (m after : MediumState) (r : ReplyData) (failed : Bool) → Syncs m failed after → r ≡ (if failed then refused write_error else good []) → r.status ≡ 0
    → IsSynced m after
sync_called m after r true c e g = not_good r write_error e g
sync_called m after r false c e g = syncs_reach m after c

sync_served : (m after : MediumState) (r : ReplyData) (o : Option SenseData) → MatchOption o (Calls (Syncs m) write_error [] r after) (λ s. Answers m (refused s) r after)
    → r.status ≡ 0 → IsSynced m after
sync_served m after r None x g = sync_called m after r x.0 x.1 x.2 g
sync_served m after r (Some s) x g = not_good r s x.0 g

op_synced : {E : Type 0} (name : List ℕ) (m after : MediumState) (sent : List ℕ) (in_len : ℕ) (o : Op) (result : Result ReplyData E)
    → IfOk result (λ r. ServesOp name m sent in_len o r after) → IfSynced (Ok o) result (IsSynced m after)
op_synced name m after sent in_len (op.Sync lba count) (Ok r) x = sync_served m after r (first_failed (range_checks m.blocks lba count)) x
op_synced name m after sent in_len (op.Sync lba count) (Err e) x = tt
op_synced name m after sent in_len op.TestUnitReady result x = tt
op_synced name m after sent in_len (op.RequestSense limit) result x = tt
op_synced name m after sent in_len (op.Inquiry page limit) result x = tt
op_synced name m after sent in_len (op.ModeSense page limit) result x = tt
op_synced name m after sent in_len op.Capacity10 result x = tt
op_synced name m after sent in_len (op.Capacity16 limit) result x = tt
op_synced name m after sent in_len (op.ReportLuns select limit) result x = tt
op_synced name m after sent in_len (op.Read lba count) result x = tt
op_synced name m after sent in_len (op.Write lba count) result x = tt
op_synced name m after sent in_len (op.WriteSame lba count) result x = tt
op_synced name m after sent in_len (op.Unmap length) result x = tt
op_synced name m after sent in_len (op.CompareWrite lba count) result x = tt

-- what is served of the operation that a command descriptor block asks for
pub synced_decoded : {E : Type 0} (name : List ℕ) (m after : MediumState) (sent : List ℕ) (in_len : ℕ) (d : Result Op CdbFault) (o : Op) (result : Result ReplyData E)
    → d ≡ Ok o → IfOk result (λ r. ServesOp name m sent in_len o r after) → IfSynced d result (IsSynced m after)
synced_decoded name m after sent in_len d o result e x =
    subst (λ (d : Result Op CdbFault). IfSynced d result (IsSynced m after)) (sym e) (op_synced name m after sent in_len o result x)
