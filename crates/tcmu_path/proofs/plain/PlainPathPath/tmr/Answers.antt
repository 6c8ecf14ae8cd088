use Rattle.tcmu_path.proofs.Keeping.{keeps_tmr}
use Rattle.tcmu_path.proofs.plain.PlainPathPath.tmr.Goals as goal

pub invariant_of-self : goal.invariant_of-self
invariant_of-self g c = keeps_tmr c.tmr.result c.self.inside.state c.tmr.new.self c.args.kind c.args.serials.now.items c.self.invariant c.tmr.ensures.answer c.tmr.ensures.after c.tmr.ensures.err
