use Rattle.ring_laws.proofs.ticked.Ticked.{tick_same, ring_ticked, ids_ticked, notes_ticked, blocks_ticked, jobs_ticked, target_ticked_keeps, side_ticked, pages_ticked}
use Rattle.tcmu_model.proofs.HoldersKept.{lists_ticked}
use Rattle.ring_laws.proofs.ticking.tick_law.Goals as goal

pub returns : goal.returns
returns c = record { answer = tick_same; ring = ring_ticked; ids = ids_ticked; notes = notes_ticked; blocks = blocks_ticked; jobs = jobs_ticked; target = target_ticked_keeps; side = side_ticked; lists = lists_ticked; pages = pages_ticked }
