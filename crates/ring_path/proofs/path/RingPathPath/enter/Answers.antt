use Rattle.ring_path.proofs.Lengths.{lengths_enter}
use Rattle.ring_path.proofs.path.RingPathPath.enter.Goals as goal

pub invariant_of-self : goal.invariant_of-self
invariant_of-self g c = lengths_enter c.enter.result c.self.inside.lengths.items c.self.inside.state c.enter.new.self c.enter.ensures.after c.enter.ensures.err c.self.invariant
