use Rattle.std.proofs.Common.{◌≡◌, ◌≤◌, ◌++◌, drop, take}
use Rattle.tcmu_model.specs.RingState.{serials_in}
use Rattle.tcmu_model.specs.Events.{run_placed}
use Rattle.tcmu_path.specs.Changing.{placing_of}
use Rattle.tcmu_path.specs.Room.{to_place, KeepsRoom}
use Rattle.tcmu_path.proofs.placing.place_run.Given as goal

abbrev pub invariant-loop-at : goal.invariant-loop-at
invariant-loop-at l = record {
  rest : run_placed (placing_of l.placed l.rows) (serials_in (drop l.at l.items)) ≡ run_placed (placing_of l.fn.placed l.fn.rows) (serials_in l.items);
  passed : l.placed.items ≡ l.fn.placed.items ++ serials_in (take l.at l.items);
  room : to_place l.rows.items ≤ l.placed.spare;
  kept : KeepsRoom l.fn.rows.items l.rows.items;
}
