use Rattle.ring_path.proofs.Lengths.{lengths_handled}
use Rattle.ring_path.proofs.path.RingPathPath.handle.Goals as goal

pub invariant_of-self-2 : goal.invariant_of-self-2
invariant_of-self-2 g c = lengths_handled c.self.inside.lengths.items c.self.inside.state.state c.keep.new.self.state _ _ c.keep.ensures.after c.self.invariant
