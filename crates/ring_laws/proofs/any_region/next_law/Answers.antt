use Rattle.ring_laws.proofs.user_over_any_bytes.AnyNext.{next_keeps, next_sizes, next_ring}
use Rattle.ring_laws.proofs.user_over_any_bytes.AnyFaults.{next_faults, next_mailbox, next_entry}
use Rattle.ring_laws.proofs.user_over_any_bytes.AnyJobs.{next_inside}
use Rattle.ring_laws.proofs.user_over_any_bytes.AnyHeads.{next_nothing}
use Rattle.ring_laws.proofs.user_over_any_bytes.AnyCounts.{next_counts}
use Rattle.ring_laws.proofs.user_over_any_bytes.AnyWhole.{next_job, next_jobs, next_pages}
use Rattle.ring_laws.proofs.any_region.next_law.Goals as goal

pub returns : goal.returns
returns c =
    record {
      sound = λ r u h e. (next_keeps r u h e).user;
      ring = next_ring;
      sizes = next_sizes;
      bits = λ r u h e. (next_keeps r u h e).bits;
      blocks = λ r u h e. (next_keeps r u h e).blocks;
      counts = next_counts;
      pages = next_pages;
      whole = next_job;
      jobs = next_jobs;
      nothing = next_nothing;
      inside = next_inside;
      faults = next_faults;
      mailbox = next_mailbox;
      entry = next_entry;
    }
