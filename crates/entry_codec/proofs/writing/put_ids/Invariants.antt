use Rattle.std.proofs.Common.{◌≡◌, ◌+◌, ◌*◌, length, drop}
use Rattle.tcmu_types.specs.ByteFields.{put}
use Rattle.region_model.specs.Layout.{ids_bytes}
use Rattle.entry_codec.proofs.writing.put_ids.Given as goal

abbrev pub invariant-loop-id : goal.invariant-loop-id
invariant-loop-id l =
    (l.id-items ≡ l.fn.ids.items)
    × (l.at ≡ l.start + 2 * l.id-index)
    × (length l.front ≡ length l.fn.front)
    × (put l.front l.at (ids_bytes (drop l.id-index l.id-items)) ≡ put l.fn.front l.start (ids_bytes l.id-items))
