use Rattle.ring_laws.proofs.user_over_any_bytes.AnyAnswers.{respond_keeps, respond_sizes, respond_ring}
use Rattle.ring_laws.proofs.user_over_any_bytes.AnyCounts.{respond_counts, respond_once, respond_uses}
use Rattle.ring_laws.proofs.user_over_any_bytes.AnyWhole.{respond_jobs, respond_pages, respond_sized}
use Rattle.ring_laws.proofs.any_region.any_respond_law.Goals as goal

pub returns : goal.returns
returns c = record { sound = λ r u p h e. (respond_keeps r u p h e).user; ring = respond_ring; sizes = respond_sizes; only = λ r u p h e. (respond_keeps r u p h e).only; counts = respond_counts; pages = respond_pages; jobs = respond_jobs; sized = respond_sized; once = respond_once; uses = respond_uses }
