use Rattle.text_laws.proofs.Carried.{carried_read}
use Rattle.text_laws.proofs.replay.carried_law.Goals as goal

pub returns : goal.returns
returns c = carried_read
