use Rattle.ring_laws.proofs.shown.PictureShown.{payload_lengths, payloads_home, picture_items, picture_mailbox}
use Rattle.ring_laws.proofs.showing.picture_law.Goals as goal

pub returns : goal.returns
returns c = record { mailbox = picture_mailbox; items = picture_items; lengths = payload_lengths; payloads = payloads_home }
