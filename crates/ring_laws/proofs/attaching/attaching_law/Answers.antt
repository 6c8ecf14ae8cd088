use Rattle.ring_laws.proofs.attached.AttachedUser.{attached_same, reattached_same}
use Rattle.ring_laws.proofs.attached.MailboxThere.{device_mailbox_there}
use Rattle.ring_laws.proofs.attaching.attaching_law.Goals as goal

pub returns : goal.returns
returns c = record { mailbox = device_mailbox_there; attached = attached_same; reattached = reattached_same }
