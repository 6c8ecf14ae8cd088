use Rattle.text_laws.proofs.Comments.{ends_ignored}
use Rattle.text_laws.proofs.lines.ends_ignored.Goals as goal

pub returns : goal.returns
returns c = ends_ignored
