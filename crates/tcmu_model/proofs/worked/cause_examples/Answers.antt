use Rattle.tcmu_model.proofs.Causes.{expires_in_time, expires_not_early, expires_not_late, clean_expires_none, leaves_in_time, leaves_not_early, leaves_not_late}
use Rattle.tcmu_model.proofs.worked.cause_examples.Goals as goal

pub returns : goal.returns
returns c =
    record {
      expires = expires_in_time;
      expires_not_early = expires_not_early;
      expires_not_late = expires_not_late;
      clean_expires_none = clean_expires_none;
      leaves = leaves_in_time;
      leaves_not_early = leaves_not_early;
      leaves_not_late = leaves_not_late;
    }
