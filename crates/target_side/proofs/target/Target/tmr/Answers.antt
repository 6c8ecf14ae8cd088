use Rattle.std.proofs.Common.{sym, subst, arith}
use Rattle.target_side.specs.Kept.{Fits}
use Rattle.target_side.proofs.Keeps.{tmr_kept}
use Rattle.std.specs.Prelude.{IfOk}
use Rattle.region_model.specs.Sides.{TargetState}
use Rattle.target_side.specs.OnDevice.{NotesDevice}
use Rattle.target_side.proofs.OnDevice.{notes_ok}
use Rattle.target_side.proofs.target.Target.tmr.Goals as goal

pub invariant_of-self : goal.invariant_of-self
invariant_of-self c =
    (tmr_kept c.args.region.now c.tmr.new.region c.self.inside.books c.tmr.new.self c.args.kind c.args.serials.now.items c.tmr.result c.tmr.ensures.answer c.tmr.ensures.noted c.tmr.ensures.written c.tmr.ensures.target c.tmr.ensures.unchanged c.self.invariant (subst (Fits c.args.region.now) (sym c.self.view_is) c.requires.region)).0

pub returns-clause-fits : goal.returns-clause-fits
returns-clause-fits c =
    (tmr_kept c.args.region.now c.tmr.new.region c.self.inside.books c.tmr.new.self c.args.kind c.args.serials.now.items c.tmr.result c.tmr.ensures.answer c.tmr.ensures.noted c.tmr.ensures.written c.tmr.ensures.target c.tmr.ensures.unchanged c.self.invariant (subst (Fits c.args.region.now) (sym c.self.view_is) c.requires.region)).1

pub returns-clause-device : goal.returns-clause-device
returns-clause-device c =
    subst (λ (t : TargetState). IfOk c.tmr.result (λ a. NotesDevice c.args.region.now t c.args.kind c.args.serials.now.items a c.tmr.new.region c.tmr.new.self)) c.self.view_is
    (notes_ok c.args.region.now c.tmr.new.region c.self.inside.books c.tmr.new.self c.args.kind c.args.serials.now.items c.tmr.result (omega arith) c.tmr.ensures.answer c.tmr.ensures.noted c.tmr.ensures.written)
