use Rattle.std.proofs.Common.{◌≡◌, ◌+◌, ◌-◌, ◌*◌, ◌++◌}
use Rattle.scsi_model.specs.Scsi.{extents_from}
use Rattle.block_engine.proofs.unmap.extents.Given as goal

abbrev pub invariant-loop-k : goal.invariant-loop-k
invariant-loop-k l = l.list.items ++ extents_from (8 + 16 * l.k) (l.n - l.k) l.sent ≡ extents_from 8 l.n l.sent
