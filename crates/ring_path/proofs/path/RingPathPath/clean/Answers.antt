use Rattle.ring_path.proofs.Lengths.{lengths_cleaned}
use Rattle.ring_path.proofs.path.RingPathPath.clean.Goals as goal

pub invariant_of-self : goal.invariant_of-self
invariant_of-self g c = lengths_cleaned c.self.inside.lengths.items c.self.inside.state.state c.clean.new.self.state c.clean.ensures.after c.self.invariant
