use Rattle.ring_path.proofs.Lengths.{lengths_ticked}
use Rattle.ring_path.proofs.path.RingPathPath.tick.Goals as goal

pub invariant_of-self : goal.invariant_of-self
invariant_of-self g c = lengths_ticked c.self.inside.lengths.items c.self.inside.state.state c.tick.new.self.state c.args.n c.tick.ensures.after c.self.invariant
