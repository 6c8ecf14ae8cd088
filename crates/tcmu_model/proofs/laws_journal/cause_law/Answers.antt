use Rattle.tcmu_model.proofs.Journals.{entry_explains}
use Rattle.tcmu_model.proofs.laws_journal.cause_law.Goals as goal

pub returns : goal.returns
returns c c' = λ s name medium es d d' e cs. entry_explains _ s name medium es d d' e cs
