use Rattle.std.proofs.Common.{◌≡◌, ◌==◌, false, rules}
use Rattle.block_engine.proofs.Choosing.{served_else}
use Rattle.block_engine.proofs.compare.compare_blocks.Goals as goal

pub returns : goal.returns
returns g c =
    let e : (c.args.count == 0) ≡ false = search rules in
    served_else (c.args.count == 0) _ _ 0 _ _ _ _ _ e (rw c.from.ensures at c.compare_bytes.ensures)
