use Rattle.std.proofs.Common.{sym, rules}
use Rattle.region_model.specs.EntryReading.{entry_read}
use Rattle.entry_codec.proofs.Exact.{reads_exactly, reads_bounded}
use Rattle.entry_codec.proofs.reading.read_entry.Goals as goal

pub returns-clause-value : goal.returns-clause-value
unfolding entry_read
returns-clause-value c = search rules

pub returns-clause-exact : goal.returns-clause-exact
returns-clause-exact c = reads_exactly c.args.front.now c.args.area c.args.mailbox.now c.args.at _ (sym (returns-clause-value c))

pub returns-clause-bounds : goal.returns-clause-bounds
returns-clause-bounds c = reads_bounded c.args.front.now c.args.area c.args.mailbox.now c.args.at _ (returns-clause-exact c)
