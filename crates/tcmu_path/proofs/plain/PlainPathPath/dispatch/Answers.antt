use Rattle.tcmu_path.proofs.Keeping.{keeps_dispatch}
use Rattle.tcmu_path.proofs.plain.PlainPathPath.dispatch.Goals as goal

pub invariant_of-self : goal.invariant_of-self
invariant_of-self g c = keeps_dispatch c.dispatch.result c.self.inside.state c.dispatch.new.self c.self.invariant c.dispatch.ensures.after c.dispatch.ensures.err
