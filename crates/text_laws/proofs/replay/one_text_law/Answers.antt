use Rattle.text_laws.proofs.Knowing.{known_without_loss}
use Rattle.text_laws.proofs.Settled.{one_known_text}
use Rattle.text_laws.proofs.replay.one_text_law.Goals as goal

pub returns-clause-known : goal.returns-clause-known
returns-clause-known c = one_known_text

pub returns-clause-lossless : goal.returns-clause-lossless
returns-clause-lossless c = known_without_loss
