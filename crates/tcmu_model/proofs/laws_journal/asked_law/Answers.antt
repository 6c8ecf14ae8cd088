use Rattle.tcmu_model.proofs.Journals.{handler_asked}
use Rattle.tcmu_model.proofs.laws_journal.asked_law.Goals as goal

pub returns : goal.returns
returns c c' = λ s name medium es d d' e serial reply. handler_asked _ s name medium es d d' e serial reply
