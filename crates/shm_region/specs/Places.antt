-- What the place of a block is after its block, or the bytes of it, were lent.
use Rattle.std.specs.Prelude.{ℕ, List, Option, Some, option_map}
use Rattle.std.specs.Borrow.{Lends, MutBor, Fml, u8, Array}
use Rattle.std.specs.contracts.option.Option.{the_row as option_row}
use Rattle.iovec_scatter.specs.contracts.block.Block.{the_row as block_row}
use Rattle.region_model.specs.Regions.{fitted}

-- the place ends with the block that was left behind r
abbrev pub LendsHome : MutBor (Option (List ℕ)) → MutBor (List ℕ) → Fml
LendsHome s r = Lends (option_row block_row) block_row s r Some

-- the place's block ends with the bytes that were left behind r, as many as before
abbrev pub LendsBytesIn : MutBor (Option (List ℕ)) → MutBor (List ℕ) → Fml
LendsBytesIn s r = Lends (option_row block_row) (Array u8 0) s r (λ w. option_map (λ old. fitted old w) s.now)
