use Rattle.ring_path.proofs.Lengths.{lengths_note}
use Rattle.ring_path.proofs.path.RingPathPath.tmr.Goals as goal

pub invariant_of-self : goal.invariant_of-self
invariant_of-self g c = lengths_note c.tmr.result c.self.inside.lengths.items c.self.inside.state c.tmr.new.self c.args.kind c.args.serials.now.items c.tmr.ensures.after c.tmr.ensures.err c.self.invariant
