use Rattle.std.proofs.Common.{arith, take}
use Rattle.data_blocks.proofs.Bits.{all_full, front_within}
use Rattle.data_blocks.proofs.laws.full_group.Goals as goal

pub returns : goal.returns
returns c =
    all_full 18446744073709551615 (take 8 c.args.words.now) (omega arith)
    (front_within 8 c.args.words.now (λ k. let h = c.type_inv.words k in omega arith))
