use Rattle.data_blocks.proofs.Several.{GaveSo}
use Rattle.data_blocks.proofs.blocks.Blocks.give.Given as goal

abbrev pub invariant-loop-number : goal.invariant-loop-number
invariant-loop-number l = GaveSo l.fn.self l.number-index l.number-items l.self
