use Rattle.std.proofs.Common.{◌≡◌, sym, ap, ◌∙◌, subst}
use Rattle.ring_path.specs.Devices.{RingDevice}
use Rattle.ring_path.specs.Rings.{IsRing}
use Rattle.tcmu_model.specs.Device.{DeviceState}
use Rattle.tcmu_model.specs.Events.{enter_answer}
use Rattle.ring_path.proofs.Enters.{accepted_entered, enter_answered, enter_keeps}
use Rattle.ring_path.proofs.Standing.{fits_target}
use Rattle.ring_path.proofs.state.State.enter.Goals as goal

pub enter-requires : goal.enter-requires
enter-requires c = let a = c.self.inside in fits_target a.region a.target a.user a.hand.items a.told.state a.told.lists c.self.invariant.stands

pub invariant_of-self-2 : goal.invariant_of-self-2
invariant_of-self-2 c =
    let a = c.self.inside in
    subst (λ (k : RingDevice). IsRing c.enter.new.region c.enter.new.self a.user a.hand.items a.attached a.longest k) (sym c.entered.ensures.whole)
    (enter_keeps a.region c.enter.new.region a.target c.enter.new.self a.user a.hand.items a.attached a.longest a.told c.in_ok-answer.answer c.self.invariant
    c.data_off-limits.ensures.limits.sized c.in_ok-answer.ensures.answer c.in_ok-answer.ensures.entered)

pub returns-clause-answer : goal.returns-clause-answer
returns-clause-answer c =
    let a = c.self.inside in
    subst (λ (k : RingDevice). c.in_ok-answer.answer ≡ enter_answer k.state) c.self.view_is
    (enter_answered a.region a.target a.user a.hand.items a.attached a.longest a.told c.in_ok-answer.answer c.self.invariant c.in_ok-answer.ensures.answer)

pub returns-clause-accepted : goal.returns-clause-accepted
returns-clause-accepted c =
    let a = c.self.inside in
    subst (λ (k : RingDevice). c.entered.new.self.state.accepted ≡ k.state.accepted) c.self.view_is (ap (λ (d : DeviceState). d.accepted) c.entered.ensures.state ∙ accepted_entered a.told.state c.in_ok-answer.answer)
