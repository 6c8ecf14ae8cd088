use Rattle.tcmu_model.proofs.Computed.{resets, reset_status, lost_reset, lost_log, lost_log_target, lost_count, detached}
use Rattle.tcmu_model.proofs.worked.reset_examples.Goals as goal

pub returns : goal.returns
returns c = record { resets = resets; reset_status = reset_status; lost_reset = lost_reset; lost_log = lost_log; lost_log_target = lost_log_target; lost_count = lost_count; detached = detached }
