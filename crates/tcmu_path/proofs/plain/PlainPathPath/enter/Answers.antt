use Rattle.tcmu_path.proofs.Keeping.{keeps_enter}
use Rattle.tcmu_path.proofs.plain.PlainPathPath.enter.Goals as goal

pub invariant_of-self : goal.invariant_of-self
invariant_of-self g c = keeps_enter c.enter.result c.self.inside.state c.enter.new.self c.self.invariant c.enter.ensures.answer c.enter.ensures.after c.enter.ensures.err
