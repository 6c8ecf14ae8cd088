use Rattle.text_laws.proofs.Replays.{replayed_again}
use Rattle.text_laws.proofs.replay.replay_text_law.Goals as goal

pub returns : goal.returns
returns c s = replayed_again _
