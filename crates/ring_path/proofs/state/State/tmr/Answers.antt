use Rattle.std.proofs.Common.{◌≡◌, max, sym, ap, ◌∙◌, subst}
use Rattle.ring_path.specs.Devices.{RingDevice}
use Rattle.ring_path.specs.Rings.{IsRing}
use Rattle.tcmu_model.specs.Device.{DeviceState}
use Rattle.tcmu_model.specs.Events.{tmr_answer}
use Rattle.ring_path.proofs.Notings.{accepted_noted, tmr_answered, tmr_keeps}
use Rattle.ring_path.proofs.Standing.{fits_target}
use Rattle.ring_path.proofs.state.State.tmr.Goals as goal

pub tmr-requires-clause-region : goal.tmr-requires-clause-region
tmr-requires-clause-region c = let a = c.self.inside in fits_target a.region a.target a.user a.hand.items a.told.state a.told.lists c.self.invariant.stands

pub invariant_of-self-2 : goal.invariant_of-self-2
invariant_of-self-2 c =
    let a = c.self.inside in
    subst (λ (k : RingDevice). IsRing c.tmr.new.region c.tmr.new.self a.user a.hand.items a.attached c.max-self-inside.result k) (sym c.noted.ensures.whole)
    (tmr_keeps a.region c.tmr.new.region a.target c.tmr.new.self a.user a.hand.items a.attached a.longest c.max-self-inside.result a.told c.args.kind c.args.serials.now.items c.in_ok-answer.answer c.self.invariant
    c.ranges.kind.fits (c.max-self-inside.ensures ∙ ap (max a.longest) c.len.ensures) c.in_ok-answer.ensures.answer c.in_ok-answer.ensures.noted c.in_ok-answer.ensures.written)

pub returns-clause-answer : goal.returns-clause-answer
returns-clause-answer c =
    let a = c.self.inside in
    subst (λ (k : RingDevice). c.in_ok-answer.answer ≡ tmr_answer k.state c.args.serials.now.items) c.self.view_is
    (tmr_answered a.region a.target a.user a.hand.items a.attached a.longest a.told c.args.serials.now.items c.in_ok-answer.answer c.self.invariant c.in_ok-answer.ensures.answer)

pub returns-clause-accepted : goal.returns-clause-accepted
returns-clause-accepted c =
    let a = c.self.inside in
    subst (λ (k : RingDevice). c.noted.new.self.state.accepted ≡ k.state.accepted) c.self.view_is (ap (λ (d : DeviceState). d.accepted) c.noted.ensures.state ∙ accepted_noted a.told.state c.args.kind c.args.serials.now.items c.in_ok-answer.answer)
