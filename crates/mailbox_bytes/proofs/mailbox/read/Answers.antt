use Rattle.std.proofs.Common.{sym, rules}
use Rattle.region_model.specs.MailboxReading.{mailbox_read, mailbox_in}
use Rattle.mailbox_bytes.proofs.Exact.{reads_exactly, read_sound}
use Rattle.mailbox_bytes.proofs.mailbox.read.Goals as goal

pub returns-clause-value : goal.returns-clause-value
unfolding mailbox_read mailbox_in
returns-clause-value c = search rules

pub returns-clause-exact : goal.returns-clause-exact
returns-clause-exact c = reads_exactly c.args.bytes.now _ (sym (returns-clause-value c))

pub returns-clause-sound : goal.returns-clause-sound
returns-clause-sound c = read_sound c.args.bytes.now _ (sym (returns-clause-value c))
