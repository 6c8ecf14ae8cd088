use Rattle.std.proofs.Common.{◌≡◌, List, sym, ap, ◌∙◌, subst}
use Rattle.tcmu_types.specs.Events as ev
use Rattle.tcmu_types.specs.Views.{dispatch_data}
use Rattle.tcmu_model.specs.Device.{DeviceState}
use Rattle.tcmu_model.specs.Events.{dispatch_answer}
use Rattle.region_model.specs.Sides.{InHand}
use Rattle.ring_path.specs.Devices.{RingDevice}
use Rattle.ring_path.specs.Given.{IsGivenOut}
use Rattle.ring_path.specs.Rings.{IsRing}
use Rattle.ring_path.proofs.Dispatches.{accepted_dispatched, detached_answer, detached_keeps, dispatch_answered, dispatch_keeps, gives}
use Rattle.ring_path.proofs.Standing.{few_dispatched}
use Rattle.ring_path.proofs.state.State.dispatch.Goals as goal

pub invariant_of-self : goal.invariant_of-self
invariant_of-self c =
    let a = c.self.inside in
    subst (λ (k : RingDevice). IsRing a.region a.target a.user a.hand.items a.attached a.longest k) (sym c.dispatched.ensures.whole) (detached_keeps a.region a.target a.user a.hand.items a.attached a.longest a.told c.self.invariant c.if-not-self.true)

pub returns-then-not-self-clause-answer : goal.returns-then-not-self-clause-answer
returns-then-not-self-clause-answer c =
    let a = c.self.inside in
    subst (λ (k : RingDevice). ev.Detached ≡ dispatch_answer k.state) c.self.view_is (detached_answer a.told.state (sym c.self.invariant.attached ∙ c.if-not-self.true))

pub returns-then-not-self-clause-accepted : goal.returns-then-not-self-clause-accepted
returns-then-not-self-clause-accepted c =
    let a = c.self.inside in
    subst (λ (k : RingDevice). c.dispatched.new.self.state.accepted ≡ k.state.accepted) c.self.view_is (ap (λ (d : DeviceState). d.accepted) c.dispatched.ensures.state ∙ accepted_dispatched a.told.state)

pub next-requires-clause-few : goal.next-requires-clause-few
next-requires-clause-few c =
    let a = c.self.inside in few_dispatched a.region a.target a.user a.hand.items a.told.state a.told.lists c.self.invariant.stands c.self.invariant.few

pub give-answer-requires-clause-can : goal.give-answer-requires-clause-can
give-answer-requires-clause-can c =
    let a = c.self.inside in
    gives a.region c.next.new.region a.target a.user c.next.new.self a.hand c.reserve-2.new.self a.attached c.reserve.new.self.spare a.longest a.told c.in-Ok.next c.self.invariant
    (c.in-Ok.ensures.device a.target a.hand.items a.told.state a.told.lists c.self.invariant.stands (sym c.self.invariant.attached ∙ c.if-not-self.false))
    c.in_ok-reserve.ensures.room c.reserve-2.ensures.items c.in_ok-reserve-2.ensures.room

pub invariant_of-self-in-Ok : goal.invariant_of-self-in-Ok
invariant_of-self-in-Ok c =
    let a = c.self.inside in
    let given = subst (λ (hs : List InHand). IsGivenOut a.target.rows hs c.in-Ok.next c.give-answer.result c.give-answer.new.hand.items) c.reserve-2.ensures.items c.give-answer.ensures in
    subst (λ (k : RingDevice). IsRing c.next.new.region a.target c.next.new.self c.give-answer.new.hand.items a.attached a.longest k) (sym c.dispatched-in-Ok.ensures.whole)
    (dispatch_keeps a.region c.next.new.region a.target a.user c.next.new.self a.hand.items c.give-answer.new.hand.items a.attached a.longest a.told c.in-Ok.next c.give-answer.result c.self.invariant
    (c.in-Ok.ensures.device a.target a.hand.items a.told.state a.told.lists c.self.invariant.stands (sym c.self.invariant.attached ∙ c.if-not-self.false)) given)

pub returns-in-Ok-clause-answer : goal.returns-in-Ok-clause-answer
returns-in-Ok-clause-answer c =
    let a = c.self.inside in
    let given = subst (λ (hs : List InHand). IsGivenOut a.target.rows hs c.in-Ok.next c.give-answer.result c.give-answer.new.hand.items) c.reserve-2.ensures.items c.give-answer.ensures in
    subst (λ (k : RingDevice). dispatch_data c.give-answer.result ≡ dispatch_answer k.state) c.self.view_is
    (dispatch_answered a.region c.next.new.region a.target a.user c.next.new.self a.hand.items c.give-answer.new.hand.items a.attached a.longest a.told c.in-Ok.next c.give-answer.result c.self.invariant
    (c.in-Ok.ensures.device a.target a.hand.items a.told.state a.told.lists c.self.invariant.stands (sym c.self.invariant.attached ∙ c.if-not-self.false)) given)
