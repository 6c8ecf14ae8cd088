use Rattle.tcmu_top.proofs.OneJournal.{has_one_journal}
use Rattle.tcmu_top.proofs.laws.text_law.Goals as goal

pub returns-clause-journal : goal.returns-clause-journal
returns-clause-journal c = has_one_journal
