use Rattle.text_laws.proofs.Events.{events_again}
use Rattle.text_laws.proofs.lines.events_again.Goals as goal

pub returns : goal.returns
returns c = events_again
