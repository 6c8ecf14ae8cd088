use Rattle.std.proofs.Common.{◌≡◌, Ok, ap, sym, ◌∙◌, subst}
use Rattle.tcmu_model.specs.Drain.{todo_of}
use Rattle.tcmu_model.specs.Sound.{IsSound}
use Rattle.journal_kept.specs.Asked.{drain_ask}
use Rattle.journal_kept.specs.Keeping.{KeptData, AsksOnce}
use Rattle.journal_kept.specs.declared.asking.Told.{Told}
use Rattle.journal_kept.proofs.Keep.{kept_sound}
use Rattle.journal_kept.proofs.Finish.{drained, work_left, goes_on_then, goes_on_asked}
use Rattle.journal_kept.proofs.kept.Kept.drain.Goals as goal

pub returns-in_default : goal.returns-in_default
returns-in_default g c =
    let is = c.drain_ask-ask.ensures ∙ ap drain_ask (c.todo.ensures ∙ ap (λ (k : KeptData). todo_of k.device.state) c.self.view_is) in
    record {
      goes_on = goes_on_then c.args.self.now c.loop.self c.ask.new.self c.loop.invariant (goes_on_asked g.P.Path.relation c.loop.self c.ask.new.self c.drain_ask-ask.result c.in_ok-ask.field-0 c.in_ok-ask.ensures.asked);
      front = c.ask.ensures.front;
      done = drained g.P.Path.relation c.loop.self c.ask.new.self c.drain_ask-ask.result c.in_ok-ask.field-0 is c.in_default.not-Answered c.in_ok-ask.ensures.asked;
    }

pub loop-smaller-in-Answered : goal.loop-smaller-in-Answered
loop-smaller-in-Answered g c =
    let is = c.drain_ask-ask.ensures ∙ ap drain_ask (c.todo.ensures ∙ ap (λ (k : KeptData). todo_of k.device.state) c.self.view_is) in
    let sound = subst (λ (k : KeptData). IsSound k.device.state) c.self.view_is (kept_sound g.P.Path.relation _ _ _ _ c.self.invariant) in
    work_left g.P.Path.relation c.loop.self c.ask.new.self c.drain_ask-ask.result c.in-Answered.field-0 sound is (subst (λ (t : Told). AsksOnce g.P.Path.relation c.loop.self c.drain_ask-ask.result t c.ask.new.self) c.in-Answered.is c.in_ok-ask.ensures.asked)

pub loop-smaller-in-Answered-2 : goal.loop-smaller-in-Answered-2
loop-smaller-in-Answered-2 g c =
    let is = c.drain_ask-ask.ensures ∙ ap drain_ask (c.todo.ensures ∙ ap (λ (k : KeptData). todo_of k.device.state) c.self.view_is) in
    let sound = subst (λ (k : KeptData). IsSound k.device.state) c.self.view_is (kept_sound g.P.Path.relation _ _ _ _ c.self.invariant) in
    work_left g.P.Path.relation c.loop.self c.ask.new.self c.drain_ask-ask.result c.in-Answered.field-0 sound is (subst (λ (t : Told). AsksOnce g.P.Path.relation c.loop.self c.drain_ask-ask.result t c.ask.new.self) c.in-Answered.is c.in_ok-ask.ensures.asked)

pub loop-smaller-in-Answered-3 : goal.loop-smaller-in-Answered-3
loop-smaller-in-Answered-3 g c =
    let is = c.drain_ask-ask.ensures ∙ ap drain_ask (c.todo.ensures ∙ ap (λ (k : KeptData). todo_of k.device.state) c.self.view_is) in
    let sound = subst (λ (k : KeptData). IsSound k.device.state) c.self.view_is (kept_sound g.P.Path.relation _ _ _ _ c.self.invariant) in
    work_left g.P.Path.relation c.loop.self c.ask.new.self c.drain_ask-ask.result c.in-Answered.field-0 sound is (subst (λ (t : Told). AsksOnce g.P.Path.relation c.loop.self c.drain_ask-ask.result t c.ask.new.self) c.in-Answered.is c.in_ok-ask.ensures.asked)

pub loop-smaller-in-Answered-4 : goal.loop-smaller-in-Answered-4
loop-smaller-in-Answered-4 g c =
    let is = c.drain_ask-ask.ensures ∙ ap drain_ask (c.todo.ensures ∙ ap (λ (k : KeptData). todo_of k.device.state) c.self.view_is) in
    let sound = subst (λ (k : KeptData). IsSound k.device.state) c.self.view_is (kept_sound g.P.Path.relation _ _ _ _ c.self.invariant) in
    work_left g.P.Path.relation c.loop.self c.ask.new.self c.drain_ask-ask.result c.in-Answered.field-0 sound is (subst (λ (t : Told). AsksOnce g.P.Path.relation c.loop.self c.drain_ask-ask.result t c.ask.new.self) c.in-Answered.is c.in_ok-ask.ensures.asked)

pub loop-smaller-in-Answered-5 : goal.loop-smaller-in-Answered-5
loop-smaller-in-Answered-5 g c =
    let is = c.drain_ask-ask.ensures ∙ ap drain_ask (c.todo.ensures ∙ ap (λ (k : KeptData). todo_of k.device.state) c.self.view_is) in
    let sound = subst (λ (k : KeptData). IsSound k.device.state) c.self.view_is (kept_sound g.P.Path.relation _ _ _ _ c.self.invariant) in
    work_left g.P.Path.relation c.loop.self c.ask.new.self c.drain_ask-ask.result c.in-Answered.field-0 sound is (subst (λ (t : Told). AsksOnce g.P.Path.relation c.loop.self c.drain_ask-ask.result t c.ask.new.self) c.in-Answered.is c.in_ok-ask.ensures.asked)
