use Rattle.ring_laws.proofs.user_over_any_bytes.AnyAnswers.{publish_sound, publish_sizes, publish_only, publish_blocks}
use Rattle.ring_laws.proofs.user_over_any_bytes.AnyCounts.{publish_counts}
use Rattle.ring_laws.proofs.user_over_any_bytes.AnyWhole.{publish_jobs, publish_pages}
use Rattle.ring_laws.proofs.any_region.any_publish_law.Goals as goal

pub returns : goal.returns
returns c = record { sound = publish_sound; counts = publish_counts; pages = publish_pages; jobs = publish_jobs; sizes = publish_sizes; only = publish_only; blocks = publish_blocks }
