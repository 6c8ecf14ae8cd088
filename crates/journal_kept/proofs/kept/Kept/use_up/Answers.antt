use Rattle.std.proofs.Common.{◌≡◌, ap, sym, ◌∙◌, subst}
use Rattle.journal_kept.specs.Keeping.{KeptData, AsksOnce}
use Rattle.journal_kept.specs.declared.asking.Told.{Told}
use Rattle.journal_kept.proofs.Finish.{left_falls}
use Rattle.journal_kept.proofs.kept.Kept.use_up.Goals as goal

pub loop-smaller-in-Answered : goal.loop-smaller-in-Answered
loop-smaller-in-Answered g c =
    left_falls g.P.Path.relation c.loop.self c.ask.new.self c.args.ask.now c.in-Answered.field-0 c.ask.ensures.front.plan.script c.requires (subst (λ (t : Told). AsksOnce g.P.Path.relation c.loop.self c.args.ask.now t c.ask.new.self) c.in-Answered.is c.in_ok-ask.ensures.asked)

pub loop-smaller-in-Answered-2 : goal.loop-smaller-in-Answered-2
loop-smaller-in-Answered-2 g c =
    left_falls g.P.Path.relation c.loop.self c.ask.new.self c.args.ask.now c.in-Answered.field-0 c.ask.ensures.front.plan.script c.requires (subst (λ (t : Told). AsksOnce g.P.Path.relation c.loop.self c.args.ask.now t c.ask.new.self) c.in-Answered.is c.in_ok-ask.ensures.asked)

pub loop-smaller-in-Answered-3 : goal.loop-smaller-in-Answered-3
loop-smaller-in-Answered-3 g c =
    left_falls g.P.Path.relation c.loop.self c.ask.new.self c.args.ask.now c.in-Answered.field-0 c.ask.ensures.front.plan.script c.requires (subst (λ (t : Told). AsksOnce g.P.Path.relation c.loop.self c.args.ask.now t c.ask.new.self) c.in-Answered.is c.in_ok-ask.ensures.asked)

pub loop-smaller-in-Answered-4 : goal.loop-smaller-in-Answered-4
loop-smaller-in-Answered-4 g c =
    left_falls g.P.Path.relation c.loop.self c.ask.new.self c.args.ask.now c.in-Answered.field-0 c.ask.ensures.front.plan.script c.requires (subst (λ (t : Told). AsksOnce g.P.Path.relation c.loop.self c.args.ask.now t c.ask.new.self) c.in-Answered.is c.in_ok-ask.ensures.asked)

pub loop-smaller-in-Answered-5 : goal.loop-smaller-in-Answered-5
loop-smaller-in-Answered-5 g c =
    left_falls g.P.Path.relation c.loop.self c.ask.new.self c.args.ask.now c.in-Answered.field-0 c.ask.ensures.front.plan.script c.requires (subst (λ (t : Told). AsksOnce g.P.Path.relation c.loop.self c.args.ask.now t c.ask.new.self) c.in-Answered.is c.in_ok-ask.ensures.asked)
