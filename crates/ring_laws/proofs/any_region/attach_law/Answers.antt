use Rattle.ring_laws.proofs.user_over_any_bytes.AnyAttached.{attached_sound, attached_pages}
use Rattle.ring_laws.proofs.user_over_any_bytes.AnyCounts.{attach_counts}
use Rattle.ring_laws.proofs.user_over_any_bytes.AnyWhole.{attach_jobs}
use Rattle.ring_laws.proofs.any_region.attach_law.Goals as goal

pub returns : goal.returns
returns c = record { sound = λ r u h. (attached_sound r u h).0; ring = λ r u h. (attached_sound r u h).1; pages = attached_pages; counts = attach_counts; jobs = attach_jobs }
