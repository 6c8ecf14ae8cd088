use Rattle.std.proofs.Common.{◌≡◌, ◌+◌, ◌≤◌, drop}
use Rattle.std.specs.Prelude.{min}
use Rattle.region_model.specs.Iovecs.{total_of}
use Rattle.ring_path.proofs.state.requesting.data_length.Given as goal

abbrev pub invariant-loop-iov : goal.invariant-loop-iov
invariant-loop-iov l = record {
  list : l.iov-items ≡ l.iovs.items;
  total : min (l.total + total_of (drop l.iov-index l.iov-items)) 4294967295 ≡ min (total_of l.iov-items) 4294967295;
  most : l.total ≤ 4294967295;
}
