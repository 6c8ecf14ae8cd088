use Rattle.std.proofs.Common.{◌≡◌, ◌+◌, drop}
use Rattle.std.specs.List.{list_all}
use Rattle.region_model.specs.EntryReading.{lies_inside}
use Rattle.user_lib.proofs.responding.lie_in_area.Given as goal

abbrev pub invariant-loop-iov : goal.invariant-loop-iov
invariant-loop-iov l = record {
  list : l.iov-items ≡ l.iovs.items;
  rest : list_all (lies_inside l.low (l.low + l.area)) (drop l.iov-index l.iov-items) ≡ list_all (lies_inside l.low (l.low + l.area)) l.iov-items;
}
