use Rattle.tcmu_path.proofs.Keeping.{keeps_submit}
use Rattle.tcmu_path.proofs.plain.PlainPathPath.submit.Goals as goal

pub invariant_of-self : goal.invariant_of-self
invariant_of-self g c = keeps_submit c.submit.result c.self.inside.state c.submit.new.self c.args.command.now c.self.invariant c.submit.ensures.command c.submit.ensures.answer c.submit.ensures.after c.submit.ensures.err
