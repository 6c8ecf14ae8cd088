use Rattle.journal_kept.proofs.Scripts.{script_kept}
use Rattle.journal_kept.proofs.laws.can_keep_law.Goals as goal

pub returns : goal.returns
returns c = script_kept
