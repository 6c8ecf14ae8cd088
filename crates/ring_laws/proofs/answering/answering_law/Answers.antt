use Rattle.ring_laws.proofs.answers.TargetAnswers.{submit_same, enter_same, block_same}
use Rattle.ring_laws.proofs.answering.answering_law.Goals as goal

pub returns : goal.returns
returns c = record { submit = submit_same; enter = enter_same; block = block_same }
