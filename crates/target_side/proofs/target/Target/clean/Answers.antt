use Rattle.std.proofs.Common.{sym, subst}
use Rattle.target_side.specs.Kept.{Fits}
use Rattle.target_side.proofs.Keeps.{kept_cleaned}
use Rattle.region_model.specs.Sides.{TargetState}
use Rattle.ring_laws.specs.Calls.{CleanLogs}
use Rattle.ring_laws.proofs.target_over_any_bytes.AnyCleans.{clean_logs}
use Rattle.target_side.specs.OnDevice.{CleansDevice}
use Rattle.target_side.proofs.OnDevice.{cleans}
use Rattle.target_side.proofs.target.Target.clean.Goals as goal

pub invariant_of-self : goal.invariant_of-self
invariant_of-self c = (kept_cleaned c.args.region.now c.clean.new.region c.self.inside.books c.clean.new.self c.clean.ensures.target c.clean.ensures.region c.self.invariant (subst (Fits c.args.region.now) (sym c.self.view_is) c.requires)).0

pub returns-clause-fits : goal.returns-clause-fits
returns-clause-fits c = (kept_cleaned c.args.region.now c.clean.new.region c.self.inside.books c.clean.new.self c.clean.ensures.target c.clean.ensures.region c.self.invariant (subst (Fits c.args.region.now) (sym c.self.view_is) c.requires)).1

pub returns-clause-own : goal.returns-clause-own
returns-clause-own c =
    subst (λ (t : TargetState). CleanLogs c.args.region.now t c.clean.new.self) c.self.view_is
    (subst (CleanLogs c.args.region.now c.self.inside.books) (sym c.clean.ensures.target) (clean_logs c.args.region.now c.self.inside.books c.self.invariant.sound))

pub returns-clause-device : goal.returns-clause-device
returns-clause-device c =
    subst (λ (t : TargetState). CleansDevice c.args.region.now t c.clean.result c.clean.new.region c.clean.new.self) c.self.view_is
    (cleans c.args.region.now c.clean.new.region c.self.inside.books c.clean.new.self c.clean.result c.clean.ensures.answer c.clean.ensures.target c.clean.ensures.region)
