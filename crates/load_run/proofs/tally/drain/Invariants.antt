use Rattle.tcmu_model.specs.Work.{work}
use Rattle.tcmu_path.specs.Calls.{Accepts}
use Rattle.load_run.proofs.Tallying.{Draining}
use Rattle.load_run.proofs.tally.drain.Given as goal

abbrev pub invariant-loop-event : goal.invariant-loop-event
invariant-loop-event g l = record {
  sofar : Draining g.P.Path.relation (g.P.Path.device l.fn.path) (g.P.Path.device l.path) l.fn.sizes.items l.sizes.items;
  accepts : Accepts 0 (g.P.Path.device l.fn.path) (g.P.Path.device l.path);
}

abbrev pub decreases-loop-event : goal.decreases-loop-event
decreases-loop-event g l = work (g.P.Path.device l.path).state
