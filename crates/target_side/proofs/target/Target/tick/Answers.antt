use Rattle.std.proofs.Common.{[], subst}
use Rattle.target_side.proofs.Keeps.{kept_ticked}
use Rattle.region_model.specs.Sides.{TargetState}
use Rattle.target_side.specs.OnDevice.{TicksDevice}
use Rattle.target_side.proofs.OnDevice.{ticks}
use Rattle.target_side.proofs.target.Target.tick.Goals as goal

pub invariant_of-self : goal.invariant_of-self
invariant_of-self c = kept_ticked (record { front = []; blocks = []; pages = 0 }) c.self.inside.books c.tick.new.self c.args.n c.tick.ensures.target c.self.invariant

pub returns-clause-device : goal.returns-clause-device
returns-clause-device c =
    subst (λ (t : TargetState). TicksDevice t c.args.n c.tick.result c.tick.new.self) c.self.view_is
    (ticks c.self.inside.books c.tick.new.self c.args.n c.tick.result c.tick.ensures.answer c.tick.ensures.target)
