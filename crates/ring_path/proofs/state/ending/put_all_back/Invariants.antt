use Rattle.std.proofs.Common.{◌≡◌, length}
use Rattle.ring_laws.specs.Restarted.{region_with_hand}
use Rattle.ring_path.specs.Backs.{AllGoBack}
use Rattle.ring_path.proofs.state.ending.put_all_back.Given as goal

abbrev pub invariant-loop-job : goal.invariant-loop-job
invariant-loop-job l = record {
  rest : AllGoBack l.region l.jobs.items;
  same : region_with_hand l.region l.jobs.items ≡ region_with_hand l.fn.region l.fn.jobs.items;
}

abbrev pub decreases-loop-job : goal.decreases-loop-job
decreases-loop-job l = length l.jobs.items
