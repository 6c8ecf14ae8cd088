use Rattle.text_laws.proofs.Comments.{comments_ignored}
use Rattle.text_laws.proofs.lines.comments_ignored.Goals as goal

pub returns : goal.returns
returns c = comments_ignored
