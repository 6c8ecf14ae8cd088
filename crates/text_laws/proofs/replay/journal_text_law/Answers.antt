use Rattle.text_laws.proofs.Replays.{read_back}
use Rattle.text_laws.proofs.replay.journal_text_law.Goals as goal

pub returns : goal.returns
returns c s = read_back _
