use Rattle.region_model.proofs.Showing.{shows_mailbox, shows_padding, shows_two_pages}
use Rattle.region_model.proofs.worked.picture_examples.Goals as goal

pub returns : goal.returns
returns c = record { mailbox = shows_mailbox; padding = shows_padding; pages = shows_two_pages }
