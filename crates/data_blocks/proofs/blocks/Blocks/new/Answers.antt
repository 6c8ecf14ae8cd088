use Rattle.std.proofs.Common.{◌≡◌, ◌+◌, ◌*◌, ◌/◌, ◌%◌, ◌≤◌, min, ℕ, refl, arith}
use Rattle.data_blocks.proofs.Sets.{empty-kept, empty-none}
use Rattle.data_blocks.proofs.blocks.Blocks.new.Goals as goal

enough : (limit count : ℕ) → count ≡ limit / 64 + min 1 (limit % 64) → limit ≤ 64 * count
enough limit count e = omega arith

pub invariant_of-result : goal.invariant_of-result
invariant_of-result c =
    rw (c.in_ok-words.ensures.items_if_clones_equal (λ y h. h))
    (empty-kept c.div_ceil.result c.args.limit (enough c.args.limit c.div_ceil.result c.div_ceil.ensures) c.requires.low c.requires.high)

pub returns : goal.returns
returns c = rw (c.in_ok-words.ensures.items_if_clones_equal (λ y h. h)) (rw (empty-none c.div_ceil.result c.args.limit) refl)
