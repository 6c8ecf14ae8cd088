use Rattle.std.proofs.Common.{◌≡◌, ◌+◌, ◌-◌, ◌≤◌, ◌++◌}
use Rattle.region_model.specs.Layout.{ring_start}
use Rattle.region_model.specs.UserNext.{iovs_in}
use Rattle.user_lib.proofs.carrying.read_iovs.Given as goal

abbrev pub invariant-loop-index : goal.invariant-loop-index
invariant-loop-index l = record {
  items : l.iovs.items ++ iovs_in l.front (ring_start + l.at) l.index (l.count - l.index) ≡ iovs_in l.front (ring_start + l.at) 0 l.count;
  room : l.count ≤ l.iovs.spare + l.index;
}
