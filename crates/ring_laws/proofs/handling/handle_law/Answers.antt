use Rattle.ring_laws.proofs.handled.HandledJobs.{jobs_handled}
use Rattle.ring_laws.proofs.handled.HandledKept.{ring_handled, ids_handled, notes_handled, blocks_handled, target_handled, side_handled, pages_handled}
use Rattle.tcmu_model.proofs.HoldersKept.{lists_handled}
use Rattle.ring_laws.proofs.handling.handle_law.Goals as goal

pub returns : goal.returns
returns c = record { ring = ring_handled; ids = ids_handled; notes = notes_handled; blocks = blocks_handled; jobs = jobs_handled; target = target_handled; side = side_handled; lists = lists_handled; pages = pages_handled }
