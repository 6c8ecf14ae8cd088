use Rattle.ring_path.proofs.Lengths.{lengths_restarted}
use Rattle.ring_path.proofs.path.RingPathPath.restart.Goals as goal

pub invariant_of-self : goal.invariant_of-self
invariant_of-self g c = lengths_restarted c.self.inside.lengths.items c.self.inside.state.state c.restart.new.self.state c.restart.ensures.after c.self.invariant
