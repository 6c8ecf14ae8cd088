use Rattle.std.proofs.Common.{◌≡◌, ◌+◌, ◌≤◌, length, map, take, Some}
use Rattle.region_model.specs.Represents.{serial_with}
use Rattle.ring_path.proofs.state.giving.serials_under.Given as goal

abbrev pub invariant-loop-id : goal.invariant-loop-id
invariant-loop-id l = record {
  told : map Some l.into.items ≡ map (serial_with l.target.rows) (take l.id-index l.id-items);
  list : l.id-items ≡ l.ids.items;
  count : length l.into.items ≡ l.id-index;
  room : length l.ids.items ≤ l.into.spare + length l.into.items;
}
