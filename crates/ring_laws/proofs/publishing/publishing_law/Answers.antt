use Rattle.ring_laws.proofs.published.TailMoved.{publish_same, ring_published, ids_published, notes_published, blocks_published, jobs_published, target_published, side_published, pages_published}
use Rattle.tcmu_model.proofs.HoldersKept.{lists_published}
use Rattle.ring_laws.proofs.publishing.publishing_law.Goals as goal

pub returns : goal.returns
returns c = record { answer = publish_same; ring = ring_published; ids = ids_published; notes = notes_published; blocks = blocks_published; jobs = jobs_published; target = target_published; side = side_published; lists = lists_published; pages = pages_published }
