use Rattle.std.proofs.Common.{◌≡◌, sym, ap, ◌∙◌, subst}
use Rattle.tcmu_types.specs.declared.answer.Publish.TheVariants as publish
use Rattle.tcmu_model.specs.Events.{publish_answer}
use Rattle.tcmu_model.specs.Device.{DeviceState}
use Rattle.ring_path.specs.Devices.{RingDevice}
use Rattle.ring_path.specs.Rings.{IsRing}
use Rattle.ring_path.proofs.Publishes.{accepted_published, detached_answer, detached_keeps, publish_keeps}
use Rattle.ring_path.proofs.state.State.publish.Goals as goal

pub invariant_of-self : goal.invariant_of-self
invariant_of-self c =
    let a = c.self.inside in
    subst (λ (k : RingDevice). IsRing a.region a.target a.user a.hand.items a.attached a.longest k) (sym c.published.ensures.whole) (detached_keeps a.region a.target a.user a.hand.items a.attached a.longest a.told c.self.invariant c.if-not-self.true)

pub returns-then-not-self-clause-answer : goal.returns-then-not-self-clause-answer
returns-then-not-self-clause-answer c =
    let a = c.self.inside in
    subst (λ (k : RingDevice). publish.Detached ≡ publish_answer k.state) c.self.view_is (detached_answer a.told.state (sym c.self.invariant.attached ∙ c.if-not-self.true))

pub returns-then-not-self-clause-accepted : goal.returns-then-not-self-clause-accepted
returns-then-not-self-clause-accepted c =
    let a = c.self.inside in
    subst (λ (k : RingDevice). c.published.new.self.state.accepted ≡ k.state.accepted) c.self.view_is (ap (λ (d : DeviceState). d.accepted) c.published.ensures.state ∙ accepted_published a.told.state)

pub invariant_of-self-2 : goal.invariant_of-self-2
invariant_of-self-2 c =
    let a = c.self.inside in
    subst (λ (k : RingDevice). IsRing c.publish-answer.new.region a.target c.publish-answer.new.self a.hand.items a.attached a.longest k) (sym c.published-2.ensures.whole)
    (publish_keeps a.region c.publish-answer.new.region a.target a.user c.publish-answer.new.self a.hand.items a.attached a.longest a.told c.publish-answer.result c.self.invariant c.if-not-self.false c.publish-answer.ensures.device)
