-- What the fields of the set of held blocks keep.
use Rattle.std.specs.Prelude.{◌≡◌, ℕ, ◌*◌, ◌≤◌, List, length}
use Rattle.data_blocks.specs.Bitmap.{set_below}
use Rattle.data_blocks.specs.Held.{IsHeldBlocks}

-- there is a bit for each number below the limit, and the count is that of the set bits
pub record IsKept (words : List ℕ) (limit held spare grown : ℕ) : Type 0 where
  pub words_within : limit ≤ 64 * length words
  pub counted : held ≡ length (set_below words limit)
  pub sound : IsHeldBlocks (record { limit = limit; held = set_below words limit; spare = spare; grown = grown })
