use Rattle.std.proofs.Common.{◌≡◌, ◌+◌, ◌^◌, ◌<◌, ◌≤◌, sym, subst}
use Rattle.tcmu_model.specs.Device.{DeviceState}
use Rattle.tcmu_model.specs.Events.{submit_answer}
use Rattle.ring_path.specs.Devices.{RingDevice}
use Rattle.ring_path.specs.Rings.{IsRing}
use Rattle.ring_path.proofs.Standing.{fits_target}
use Rattle.ring_path.proofs.Submits.{accepts_one, submit_answered, submit_kept}
use Rattle.ring_path.proofs.state.State.submit.Goals as goal

pub submit-requires-clause-region : goal.submit-requires-clause-region
submit-requires-clause-region c = let a = c.self.inside in fits_target a.region a.target a.user a.hand.items a.told.state a.told.lists c.self.invariant.stands

pub invariant_of-self-2 : goal.invariant_of-self-2
invariant_of-self-2 c =
    let a = c.self.inside in
    subst (λ (k : RingDevice). IsRing c.submit.new.region c.submit.new.self a.user a.hand.items a.attached a.longest k) (sym c.submitted.ensures.whole)
    (submit_kept a.region c.submit.new.region a.target c.submit.new.self a.user a.hand.items a.attached a.longest a.told c.args.command.now c.in_ok-answer.answer c.self.invariant
    (subst (λ (k : RingDevice). k.state.accepted < 2 ^ 63) (sym c.self.view_is) c.requires)
    c.data_off-limits.ensures.limits.sized c.cdb-rules.ensures.sound c.in_ok-answer.ensures.answer c.in_ok-answer.ensures.submitted)

pub returns-clause-answer : goal.returns-clause-answer
returns-clause-answer c =
    let a = c.self.inside in
    subst (λ (k : RingDevice). c.in_ok-answer.answer ≡ submit_answer k.state c.args.command.now) c.self.view_is
    (submit_answered a.region a.target a.user a.hand.items a.attached a.longest a.told c.args.command.now c.in_ok-answer.answer c.self.invariant c.in_ok-answer.ensures.answer)

pub returns-clause-least : goal.returns-clause-least
returns-clause-least c =
    let a = c.self.inside in
    let one = (accepts_one a.told.state c.args.command.now c.in_ok-answer.answer).least in
    subst (λ (k : RingDevice). k.state.accepted ≤ c.submitted.new.self.state.accepted) c.self.view_is
    (subst (λ (d : DeviceState). a.told.state.accepted ≤ d.accepted) (sym c.submitted.ensures.state) one)

pub returns-clause-most : goal.returns-clause-most
returns-clause-most c =
    let a = c.self.inside in
    let one = (accepts_one a.told.state c.args.command.now c.in_ok-answer.answer).most in
    subst (λ (k : RingDevice). c.submitted.new.self.state.accepted ≤ k.state.accepted + 1) c.self.view_is
    (subst (λ (d : DeviceState). d.accepted ≤ a.told.state.accepted + 1) (sym c.submitted.ensures.state) one)
