use Rattle.std.proofs.Common.{◌≡◌, ◌+◌, ◌-◌, ◌≤◌, ◌++◌, length, take, drop}
use Rattle.region_model.specs.Iovecs.{gathered}
use Rattle.ring_path.proofs.state.requesting.first_bytes.Given as goal

abbrev pub invariant-loop-part : goal.invariant-loop-part
invariant-loop-part l = record {
  items : l.bytes.items ++ take (l.count - length l.bytes.items) (gathered (drop l.part-index l.part-items)) ≡ take l.count (gathered l.parts.items);
  room : l.count ≤ length l.bytes.items + l.bytes.spare;
}
