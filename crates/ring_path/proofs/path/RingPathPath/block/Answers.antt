use Rattle.std.proofs.Common.{true}
use Rattle.ring_path.proofs.Lengths.{lengths_blocked}
use Rattle.ring_path.proofs.path.RingPathPath.block.Goals as goal

pub invariant_of-self : goal.invariant_of-self
invariant_of-self g c = lengths_blocked c.self.inside.lengths.items c.self.inside.state.state c.block.new.self.state true c.block.ensures.after c.self.invariant
