use Rattle.std.proofs.Common.{◌≡◌, ◌*◌, ◌≤◌, take}
use Rattle.std.specs.List.{sum_by}
use Rattle.block_engine.proofs.unmap.total.Given as goal

abbrev pub invariant-loop-extent : goal.invariant-loop-extent
invariant-loop-extent l = record {
  sum : l.blocks ≡ sum_by (λ e. e.count) (take l.extent-index l.extents);
  small : l.blocks ≤ 4294967295 * l.extent-index;
}
