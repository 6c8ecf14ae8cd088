use Rattle.std.proofs.Common.{sym, subst}
use Rattle.target_side.specs.Kept.{Fits}
use Rattle.target_side.proofs.Keeps.{submit_kept}
use Rattle.std.specs.Prelude.{IfOk}
use Rattle.region_model.specs.Sides.{TargetState}
use Rattle.target_side.specs.OnDevice.{SubmitsDevice}
use Rattle.target_side.proofs.OnDevice.{submits_ok}
use Rattle.target_side.proofs.target.Target.submit.Goals as goal

pub invariant_of-self : goal.invariant_of-self
invariant_of-self c =
    (submit_kept c.args.region.now c.submit.new.region c.self.inside.books c.submit.new.self c.args.command.now c.submit.result c.submit.ensures.answer c.submit.ensures.submitted c.submit.ensures.target c.submit.ensures.unchanged c.self.invariant (subst (Fits c.args.region.now) (sym c.self.view_is) c.requires.region)).0

pub returns-clause-fits : goal.returns-clause-fits
returns-clause-fits c =
    (submit_kept c.args.region.now c.submit.new.region c.self.inside.books c.submit.new.self c.args.command.now c.submit.result c.submit.ensures.answer c.submit.ensures.submitted c.submit.ensures.target c.submit.ensures.unchanged c.self.invariant (subst (Fits c.args.region.now) (sym c.self.view_is) c.requires.region)).1

pub returns-clause-device : goal.returns-clause-device
returns-clause-device c =
    subst (λ (t : TargetState). IfOk c.submit.result (λ a. SubmitsDevice c.args.region.now t c.args.command.now a c.submit.new.region c.submit.new.self)) c.self.view_is
    (submits_ok c.args.region.now c.submit.new.region c.self.inside.books c.submit.new.self c.args.command.now c.submit.result c.data_off-limits.ensures.limits.sized c.submit.ensures.answer c.submit.ensures.submitted)
