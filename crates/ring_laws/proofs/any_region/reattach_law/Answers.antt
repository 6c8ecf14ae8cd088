use Rattle.ring_laws.proofs.user_over_any_bytes.AnyAnswers.{abandon_sound, reattach_sizes, reattach_only}
use Rattle.ring_laws.proofs.user_over_any_bytes.AnyCounts.{abandon_counts}
use Rattle.ring_laws.proofs.user_over_any_bytes.AnyWhole.{reattach_sized}
use Rattle.ring_laws.proofs.any_region.reattach_law.Goals as goal

pub returns : goal.returns
returns c = record { sound = abandon_sound; counts = abandon_counts; sizes = reattach_sizes; sized = reattach_sized; front = λ r u. (reattach_only r u).front }
