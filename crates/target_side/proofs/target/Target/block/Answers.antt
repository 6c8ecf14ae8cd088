use Rattle.std.proofs.Common.{true, [], subst}
use Rattle.target_side.proofs.Keeps.{kept_blocked}
use Rattle.region_model.specs.Sides.{TargetState}
use Rattle.target_side.specs.OnDevice.{TurnsDevice}
use Rattle.target_side.proofs.OnDevice.{turns}
use Rattle.target_side.proofs.target.Target.block.Goals as goal

pub invariant_of-self : goal.invariant_of-self
invariant_of-self c = kept_blocked (record { front = []; blocks = []; pages = 0 }) c.self.inside.books c.block.new.self true c.block.ensures.target c.self.invariant

pub returns-clause-device : goal.returns-clause-device
returns-clause-device c =
    subst (λ (t : TargetState). TurnsDevice t true c.block.result c.block.new.self) c.self.view_is
    (turns c.self.inside.books c.block.new.self true c.block.result c.block.ensures.answer c.block.ensures.target)
