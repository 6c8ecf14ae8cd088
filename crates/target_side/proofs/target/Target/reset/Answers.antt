use Rattle.std.proofs.Common.{sym, subst}
use Rattle.target_side.specs.Kept.{Fits}
use Rattle.target_side.proofs.Keeps.{kept_reset}
use Rattle.region_model.specs.Sides.{TargetState}
use Rattle.target_side.specs.OnDevice.{ResetsDevice}
use Rattle.target_side.proofs.OnDevice.{resets}
use Rattle.target_side.proofs.target.Target.reset.Goals as goal

pub invariant_of-self : goal.invariant_of-self
invariant_of-self c = (kept_reset c.args.region.now c.reset.new.region c.self.inside.books c.reset.new.self c.args.level c.reset.ensures.target c.reset.ensures.region c.self.invariant (subst (Fits c.args.region.now) (sym c.self.view_is) c.requires.region)).0

pub returns-clause-fits : goal.returns-clause-fits
returns-clause-fits c = (kept_reset c.args.region.now c.reset.new.region c.self.inside.books c.reset.new.self c.args.level c.reset.ensures.target c.reset.ensures.region c.self.invariant (subst (Fits c.args.region.now) (sym c.self.view_is) c.requires.region)).1

pub returns-clause-device : goal.returns-clause-device
returns-clause-device c =
    subst (λ (t : TargetState). ResetsDevice c.args.region.now t c.args.level c.reset.result) c.self.view_is
    (resets c.args.region.now c.self.inside.books c.args.level c.reset.result c.reset.ensures.answer)
