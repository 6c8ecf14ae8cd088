use Rattle.std.proofs.Common.{◌≡◌, ◌+◌, ◌≤◌, ◌++◌, length, drop}
use Rattle.tcmu_model.specs.Lengths.{block_size}
use Rattle.region_model.specs.Iovecs.{iovs_along}
use Rattle.iovec_scatter.specs.Growing.{growing, before}
use Rattle.iovec_scatter.proofs.payload.iovs_of.Given as goal

abbrev pub invariant-loop-block : goal.invariant-loop-block
invariant-loop-block l =
    (l.size ≡ block_size l.pages)
    × (l.block-items ≡ l.blocks.items)
    × (l.into.items ++ before l.grows (iovs_along l.data_off l.size (drop l.block-index l.block-items) l.left) ≡ iovs_along l.data_off l.size l.block-items l.len)
    × (length l.block-items + growing l.grows ≤ l.into.spare + l.block-index)
