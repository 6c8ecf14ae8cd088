use Rattle.data_blocks.proofs.Bits as bits
use Rattle.data_blocks.proofs.bitmap.is_set.Goals as goal

pub returns : goal.returns
returns c = bits.read c.args.words.now c.args.number
