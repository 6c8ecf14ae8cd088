use Rattle.std.proofs.Common.{◌≡◌, sym, ap, ◌∙◌, subst}
use Rattle.tcmu_model.specs.BlockLists.{kept_lists}
use Rattle.tcmu_model.specs.Device.{DeviceState}
use Rattle.tcmu_model.specs.Events.{after_tick, tick_answer}
use Rattle.ring_path.proofs.Ticks.{accepted_ticked, tick_answered, tick_keeps}
use Rattle.ring_path.specs.Devices.{RingDevice}
use Rattle.ring_path.specs.Rings.{IsRing}
use Rattle.ring_path.proofs.state.State.tick.Goals as goal

pub invariant_of-self : goal.invariant_of-self
invariant_of-self c =
    let a = c.self.inside in
    subst (λ (k : RingDevice). IsRing a.region c.tick-logged.new.self a.user a.hand.items a.attached a.longest k) (sym c.ticked.ensures.whole)
    (tick_keeps a.region a.target c.tick-logged.new.self a.user a.hand.items a.attached a.longest a.told c.args.n c.self.invariant c.tick-logged.ensures.target)

pub returns-clause-answer : goal.returns-clause-answer
returns-clause-answer c =
    let a = c.self.inside in
    subst (λ (k : RingDevice). c.tick-logged.result ≡ tick_answer k.state c.args.n) c.self.view_is
    (tick_answered a.region a.target a.user a.hand.items a.attached a.longest a.told c.args.n c.tick-logged.result c.self.invariant c.tick-logged.ensures.answer)

pub returns-clause-after : goal.returns-clause-after
returns-clause-after c = subst (λ (k : RingDevice). c.ticked.new.self.state ≡ after_tick k.state c.args.n) c.self.view_is c.ticked.ensures.state

pub returns-clause-lists : goal.returns-clause-lists
returns-clause-lists c = subst (λ (k : RingDevice). c.ticked.new.self.lists ≡ kept_lists c.ticked.new.self.state k.lists) c.self.view_is c.ticked.ensures.lists

pub returns-clause-accepted : goal.returns-clause-accepted
returns-clause-accepted c =
    let a = c.self.inside in
    subst (λ (k : RingDevice). c.ticked.new.self.state.accepted ≡ k.state.accepted) c.self.view_is (ap (λ (d : DeviceState). d.accepted) c.ticked.ensures.state ∙ accepted_ticked a.told.state c.args.n)
