use Rattle.text_laws.proofs.Carried.{spelled_read}
use Rattle.text_laws.proofs.replay.spelled_law.Goals as goal

pub returns : goal.returns
returns c = spelled_read
