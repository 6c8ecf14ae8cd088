use Rattle.ring_path.proofs.Lengths.{lengths_published}
use Rattle.ring_path.proofs.path.RingPathPath.publish.Goals as goal

pub invariant_of-self : goal.invariant_of-self
invariant_of-self g c = lengths_published c.self.inside.lengths.items c.self.inside.state.state c.publish.new.self.state c.publish.ensures.after c.self.invariant
