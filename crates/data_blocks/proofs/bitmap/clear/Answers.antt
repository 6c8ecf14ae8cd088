use Rattle.std.proofs.Common.{◌/◌, ◌∙◌, arith}
use Rattle.data_blocks.proofs.Bits as bits
use Rattle.data_blocks.proofs.bitmap.clear.Goals as goal

pub returns-clause-bits : goal.returns-clause-bits
returns-clause-bits c =
    bits.clear-tells c.args.words.now.items c.args.number c.index_mut.result.now
    (c.index_mut.ensures.value ∙ bits.any-default c.args.words.now.items (c.args.number / 64) c.index_mut.result.now (omega arith)) c.requires
