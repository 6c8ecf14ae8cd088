use Rattle.ring_laws.proofs.shown.StatSame.{stat_same}
use Rattle.ring_laws.proofs.showing.stat_law.Goals as goal

pub returns : goal.returns
returns c = stat_same
