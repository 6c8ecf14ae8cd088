use Rattle.ring_laws.proofs.refused.RefusedSame.{refused_same, entered_none_same}
use Rattle.ring_laws.proofs.refusing.refused_law.Goals as goal

pub returns : goal.returns
returns c = record { submit = refused_same; enter = entered_none_same }
