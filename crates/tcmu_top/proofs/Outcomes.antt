-- The engine has a reply to each request.
use Rattle.scsi_model.specs.Scsi.{Serves}
use Rattle.tcmu_model.specs.Steps.{asked}
use Rattle.tcmu_model.specs.Work.{HasOutcomes}
use Rattle.block_engine.proofs.Settling.{some_reply, whole_reply}

pub has_outcomes : HasOutcomes Serves
has_outcomes name medium c rules =
    let x = some_reply name medium (asked c) in
    let whole = whole_reply name medium (asked c) x.0 x.1 x.2 in
    record { reply = x.0; after = x.1; relation = x.2; rules = whole.0; payload = whole.1 }
