use Rattle.ring_path.proofs.Lengths.{lengths_dispatch}
use Rattle.ring_path.proofs.path.RingPathPath.dispatch.Goals as goal

pub invariant_of-self : goal.invariant_of-self
invariant_of-self g c = lengths_dispatch c.dispatch.result c.self.inside.lengths.items c.self.inside.state c.dispatch.new.self c.dispatch.ensures.after c.dispatch.ensures.err c.self.invariant
