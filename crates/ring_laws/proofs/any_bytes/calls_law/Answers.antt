use Rattle.ring_laws.proofs.target_over_any_bytes.AnyCalls.{sound_opened, sound_called, sound_from_opening}
use Rattle.ring_laws.proofs.any_bytes.calls_law.Goals as goal
use Rattle.ring_laws.proofs.target_over_any_bytes.AnyLogs.{call_logs}

pub returns : goal.returns
returns c = record { opening = sound_opened; each = sound_called; all = sound_from_opening; logs = call_logs }
