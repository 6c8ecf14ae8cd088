use Rattle.ring_laws.proofs.cleaned.CleanedAll.{answer_cleaned}
use Rattle.ring_laws.proofs.cleaned.CleanedRecords.{target_cleaned_keeps, side_cleaned, pages_cleaned}
use Rattle.ring_laws.proofs.cleaned.CleanedRing.{ring_cleaned, ids_cleaned, notes_cleaned}
use Rattle.ring_laws.proofs.cleaned.CleanedJobs.{blocks_cleaned, jobs_cleaned}
use Rattle.tcmu_model.proofs.ListsCleaned.{lists_cleaned}
use Rattle.ring_laws.proofs.cleaning.clean_law.Goals as goal

pub returns : goal.returns
returns c =
    record {
      answer = answer_cleaned;
      ring = ring_cleaned;
      ids = ids_cleaned;
      notes = notes_cleaned;
      blocks = blocks_cleaned;
      jobs = jobs_cleaned;
      target = target_cleaned_keeps;
      side = side_cleaned;
      lists = lists_cleaned;
      pages = pages_cleaned;
    }
