use Rattle.text_laws.proofs.InMemory.{law_of_replay, law_of_journals}
use Rattle.text_laws.proofs.memory.replay_in_memory_law.Goals as goal

pub returns-clause-replays : goal.returns-clause-replays
returns-clause-replays c = law_of_replay

pub returns-clause-journals : goal.returns-clause-journals
returns-clause-journals c = law_of_journals
