use Rattle.text_laws.proofs.InMemory.{has_one_text, has_one_journal}
use Rattle.text_laws.proofs.memory.text_in_memory_law.Goals as goal

pub returns-clause-text : goal.returns-clause-text
returns-clause-text c = has_one_text

pub returns-clause-journal : goal.returns-clause-journal
returns-clause-journal c = has_one_journal
