use Rattle.ring_path.proofs.Lengths.{lengths_responded}
use Rattle.ring_path.proofs.path.RingPathPath.respond.Goals as goal

pub invariant_of-self : goal.invariant_of-self
invariant_of-self g c = lengths_responded c.self.inside.lengths.items c.self.inside.state.state c.respond.new.self.state c.args.serial c.respond.ensures.after c.self.invariant
