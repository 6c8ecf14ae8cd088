use Rattle.text_laws.proofs.OneReading.{one_reading, one_list}
use Rattle.text_laws.proofs.replay.reading_law.Goals as goal

pub returns-clause-pictures : goal.returns-clause-pictures
returns-clause-pictures c s = one_reading _ _

pub returns-clause-any : goal.returns-clause-any
returns-clause-any c s = one_list _ _
