use Rattle.ring_path.proofs.Lengths.{lengths_reset}
use Rattle.ring_path.proofs.path.RingPathPath.reset.Goals as goal

pub invariant_of-self : goal.invariant_of-self
invariant_of-self g c = lengths_reset c.self.inside.lengths.items c.self.inside.state.state c.reset.new.self.state c.args.level c.reset.ensures.after c.self.invariant
