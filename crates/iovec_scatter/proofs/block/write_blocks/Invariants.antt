use Rattle.std.proofs.Common.{◌≡◌, ◌+◌, ◌≤◌, min, ◌++◌, length, take, drop}
use Rattle.std.specs.Vec.{vec_capacity}
use Rattle.region_model.specs.Iovecs.{scattered, room_of}
use Rattle.iovec_scatter.proofs.block.write_blocks.Given as goal

abbrev pub invariant-loop-index : goal.invariant-loop-index
invariant-loop-index l =
    (l.index-end ≡ length l.parts-inside.blocks.items)
    × (length l.parts-inside.blocks.items ≡ length l.initial.parts-inside.blocks.items)
    × (vec_capacity l.parts-inside.blocks ≡ vec_capacity l.initial.parts-inside.blocks)
    × (l.done ≤ length l.bytes)
    × (l.done + min (length (drop l.done l.bytes)) (room_of (drop l.index l.parts-inside.blocks.items)) ≡ min (length l.bytes) (room_of l.initial.parts-inside.blocks.items))
    × (take l.index l.parts-inside.blocks.items ++ scattered (drop l.index l.parts-inside.blocks.items) (drop l.done l.bytes) ≡ scattered l.initial.parts-inside.blocks.items l.bytes)
