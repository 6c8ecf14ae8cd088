use Rattle.ring_laws.proofs.responded.Responds.{answer_same, blocks_kept, ids_kept, jobs_kept, notes_kept, pages_kept, ring_kept, side_kept, target_kept}
use Rattle.tcmu_model.proofs.HoldersKept.{lists_responded}
use Rattle.ring_laws.proofs.responded.RespondsWhole.{job_open, job_whole}
use Rattle.ring_laws.proofs.responding.respond_law.Goals as goal

pub returns : goal.returns
returns c = record { answer = answer_same; ring = ring_kept; ids = ids_kept; notes = notes_kept; blocks = blocks_kept; jobs = jobs_kept; target = target_kept; side = side_kept; lists = λ user rows d lists s u p parts h. lists_responded d lists s h.owned; pages = pages_kept; is_open = job_open; whole = job_whole }
