use Rattle.std.proofs.Common.{◌≡◌, ◌+◌, ◌-◌, ◌≤◌, ◌++◌, length, take, drop}
use Rattle.region_model.specs.Iovecs.{gathered, room_of}
use Rattle.iovec_scatter.proofs.block.gather.Given as goal

abbrev pub invariant-loop-block : goal.invariant-loop-block
invariant-loop-block l =
    (l.block-items ≡ l.parts.items)
    × (length l.into ≡ length l.fn.into)
    × (l.done ≤ length l.fn.into)
    × (length l.fn.into ≤ l.done + room_of (drop l.block-index l.block-items))
    × (take l.done l.into ++ take (length l.fn.into - l.done) (gathered (drop l.block-index l.block-items)) ≡ take (length l.fn.into) (gathered l.block-items))
