use Rattle.std.proofs.Common.{◌≤◌, subst, arith}
use Rattle.tcmu_model.specs.RingState.{RingState, cleared_commands, published_commands}
use Rattle.tcmu_model.proofs.Fronts.{commands_more}
use Rattle.tcmu_path.proofs.ring.Ring.cleared_commands.Goals as goal

pub returns-clause-bound : goal.returns-clause-bound
returns-clause-bound c =
    let a = c.self.inside in
    let r : RingState = record { size = a.size; laid = a.laid.items; cleared = a.cleared; published = a.published; dispatched = a.dispatched } in
    let l : cleared_commands r ≤ published_commands r = commands_more r.cleared r.published r.laid c.self.invariant.cleared in
    subst (λ (x : RingState). a.cleared_commands ≤ published_commands x) c.self.view_is (omega (arith, l, c.self.invariant.cleared_is))
