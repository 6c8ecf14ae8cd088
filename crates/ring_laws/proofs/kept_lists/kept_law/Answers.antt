use Rattle.ring_laws.proofs.lists.KeptLists.{ring_kept, blocks_kept, jobs_kept, target_kept}
use Rattle.tcmu_model.proofs.ListsKept.{lists_kept}
use Rattle.ring_laws.proofs.kept_lists.kept_law.Goals as goal

pub returns : goal.returns
returns c = record { ring = ring_kept; blocks = blocks_kept; jobs = jobs_kept; target = target_kept; lists = lists_kept }
