use Rattle.ring_laws.proofs.target_over_any_bytes.AnyCleans.{clean_logs}
use Rattle.ring_laws.proofs.target_over_any_bytes.AnyStops.{kept_id, bad_tail, to_tail, stops}
use Rattle.ring_laws.proofs.target_over_any_bytes.AnyCleared.{clean_front}
use Rattle.ring_laws.proofs.target_over_any_bytes.AnyKeptId.{id_stays}
use Rattle.ring_laws.proofs.any_bytes.any_clean_law.Goals as goal

pub returns : goal.returns
returns c = record { logs = clean_logs; kept = kept_id; stays = id_stays; bad_tail = bad_tail; stops = stops; front = clean_front; to_tail = to_tail }
