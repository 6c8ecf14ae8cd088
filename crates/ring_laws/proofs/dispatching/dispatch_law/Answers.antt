use Rattle.ring_laws.proofs.dispatched.DispatchAnswers.{answer_dispatched}
use Rattle.ring_laws.proofs.dispatched.DispatchBlocks.{blocks_dispatched}
use Rattle.ring_laws.proofs.dispatched.DispatchJobs.{jobs_dispatched}
use Rattle.ring_laws.proofs.dispatched.DispatchKept.{ring_dispatched, ids_dispatched, notes_dispatched, target_dispatched, side_dispatched, pages_dispatched}
use Rattle.tcmu_model.proofs.HoldersKept.{lists_dispatched}
use Rattle.ring_laws.proofs.dispatched.NextNothing.{next_nothing}
use Rattle.ring_laws.proofs.dispatching.dispatch_law.Goals as goal

pub returns : goal.returns
returns c = record { answer = answer_dispatched; ring = ring_dispatched; ids = ids_dispatched; notes = notes_dispatched; blocks = blocks_dispatched; jobs = jobs_dispatched; target = target_dispatched; side = side_dispatched; lists = lists_dispatched; pages = pages_dispatched; passing = next_nothing }
