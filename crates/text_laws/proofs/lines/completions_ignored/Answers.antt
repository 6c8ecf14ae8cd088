use Rattle.text_laws.proofs.Comments.{completions_ignored}
use Rattle.text_laws.proofs.lines.completions_ignored.Goals as goal

pub returns : goal.returns
returns c = completions_ignored
