use Rattle.std.proofs.Common.{◌≡◌, ◌+◌, ◌*◌, length, drop}
use Rattle.tcmu_types.specs.ByteFields.{put}
use Rattle.region_model.specs.Layout.{iovs_bytes}
use Rattle.entry_codec.proofs.writing.put_iovs.Given as goal

abbrev pub invariant-loop-iov : goal.invariant-loop-iov
invariant-loop-iov l =
    (l.iov-items ≡ l.fn.iovs.items)
    × (l.at ≡ l.start + 16 * l.iov-index)
    × (length l.front ≡ length l.fn.front)
    × (put l.front l.at (iovs_bytes (drop l.iov-index l.iov-items)) ≡ put l.fn.front l.start (iovs_bytes l.iov-items))
