-- What is served behind a test that does not hold, and where more bytes may be answered.
use Rattle.std.proofs.Common.{◌≡◌, ℕ, ◌≤◌, Bool, false, List, Result, Ok, Err, IfOk, MatchResult, sym, subst, arith}
use Rattle.std.specs.Bool.{MatchBool}
use Rattle.tcmu_types.specs.Data.{ReplyData}
use Rattle.tcmu_model.specs.MediumState.{MediumState}
use Rattle.tcmu_model.specs.Steps.{Asked}
use Rattle.scsi_model.specs.Decoding.{decoded}
use Rattle.scsi_model.specs.Scsi.{Outcome, Either, Serves, ServesOp, Answers, refused, fault_sense}
use Rattle.scsi_model.specs.declared.op.Op.{Op}
use Rattle.scsi_model.specs.declared.op.CdbFault.{CdbFault}
use Rattle.block_engine.specs.Serving.{Served}

pub served_else : {E : Type 0} (test : Bool) (First Second : Outcome) (n : ℕ) (old new : MediumState) (before after : ℕ) (result : Result ReplyData E)
    → test ≡ false → Served Second n old new before after result → Served (Either test First Second) n old new before after result
served_else test First Second n old new before after result e s =
    let P : Bool → Type 0 = λ t. IfOk result (λ r. MatchBool t (First r new) (Second r new)) in
    record { allowed = subst P (sym e) s.allowed; fits = s.fits; caused = s.caused; exact = s.exact; later = s.later; same = s.same; counted = s.counted }

pub served_within : {E : Type 0} (Meaning : Outcome) (few n : ℕ) (old new : MediumState) (before after : ℕ) (result : Result ReplyData E)
    → few ≤ n → Served Meaning few old new before after result → Served Meaning n old new before after result
served_within Meaning few n old new before after (Ok r) h s =
    record { allowed = s.allowed; fits = omega (arith, h, s.fits); caused = s.caused; exact = s.exact; later = s.later; same = s.same; counted = s.counted }
served_within Meaning few n old new before after (Err e) h s =
    record { allowed = s.allowed; fits = s.fits; caused = s.caused; exact = s.exact; later = s.later; same = s.same; counted = s.counted }

-- what serves the operation that a command descriptor block asks for serves the request
pub serves_decoded : {E : Type 0} (name : List ℕ) (m after : MediumState) (r : Asked) (o : Op) (result : Result ReplyData E)
    → decoded r.cdb ≡ Ok o → IfOk result (λ reply. ServesOp name m r.sent r.in_len o reply after) → IfOk result (λ reply. Serves name m r reply after)
serves_decoded name m after r o result e served =
    subst (λ (d : Result Op CdbFault). IfOk result (λ reply. MatchResult d (λ o. ServesOp name m r.sent r.in_len o reply after) (λ f. Answers m (refused (fault_sense f)) reply after)))
    (sym e) served
