use Rattle.std.proofs.Common.{sym, subst}
use Rattle.target_side.specs.Kept.{Fits}
use Rattle.target_side.proofs.Keeps.{enter_kept}
use Rattle.std.specs.Prelude.{IfOk}
use Rattle.region_model.specs.Sides.{TargetState}
use Rattle.target_side.specs.OnDevice.{EntersDevice}
use Rattle.target_side.proofs.OnDevice.{enters_ok}
use Rattle.target_side.proofs.target.Target.enter.Goals as goal

pub invariant_of-self : goal.invariant_of-self
invariant_of-self c =
    (enter_kept c.args.region.now c.enter.new.region c.self.inside.books c.enter.new.self c.enter.result c.enter.ensures.answer c.enter.ensures.entered c.enter.ensures.target c.enter.ensures.unchanged c.self.invariant (subst (Fits c.args.region.now) (sym c.self.view_is) c.requires)).0

pub returns-clause-fits : goal.returns-clause-fits
returns-clause-fits c =
    (enter_kept c.args.region.now c.enter.new.region c.self.inside.books c.enter.new.self c.enter.result c.enter.ensures.answer c.enter.ensures.entered c.enter.ensures.target c.enter.ensures.unchanged c.self.invariant (subst (Fits c.args.region.now) (sym c.self.view_is) c.requires)).1

pub returns-clause-device : goal.returns-clause-device
returns-clause-device c =
    subst (λ (t : TargetState). IfOk c.enter.result (λ a. EntersDevice c.args.region.now t a c.enter.new.region c.enter.new.self)) c.self.view_is
    (enters_ok c.args.region.now c.enter.new.region c.self.inside.books c.enter.new.self c.enter.result c.data_off-limits.ensures.limits.sized c.enter.ensures.answer c.enter.ensures.entered)
