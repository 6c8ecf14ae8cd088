use Rattle.ring_laws.proofs.opened.AttachedOpening.{attached_opening}
use Rattle.ring_laws.proofs.opened.Opened.{represents_opening}
use Rattle.tcmu_model.proofs.ListsKept.{lists_sound_opening}
use Rattle.ring_laws.proofs.opening.opening_law.Goals as goal

pub returns : goal.returns
returns c = record { represents = represents_opening; lists = lists_sound_opening; attached = attached_opening }
