use Rattle.ring_laws.proofs.ticked.Ticked.{ring_blocked, ids_blocked, notes_blocked, blocks_blocked, jobs_blocked, target_blocked_keeps, side_blocked, pages_blocked}
use Rattle.tcmu_model.proofs.HoldersKept.{lists_blocked}
use Rattle.ring_laws.proofs.ticking.block_law.Goals as goal

pub returns : goal.returns
returns c = record { ring = ring_blocked; ids = ids_blocked; notes = notes_blocked; blocks = blocks_blocked; jobs = jobs_blocked; target = target_blocked_keeps; side = side_blocked; lists = lists_blocked; pages = pages_blocked }
