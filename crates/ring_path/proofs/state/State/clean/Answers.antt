use Rattle.std.proofs.Common.{◌≡◌, sym, ap, ◌∙◌, subst}
use Rattle.tcmu_model.specs.Events.{clean_answer}
use Rattle.tcmu_model.specs.Device.{DeviceState}
use Rattle.ring_path.specs.Devices.{RingDevice}
use Rattle.ring_path.specs.Rings.{IsRing}
use Rattle.ring_path.proofs.Cleans.{accepted_cleaned, clean_answered, clean_keeps, no_fault, same_count}
use Rattle.ring_path.proofs.state.State.clean.Goals as goal

pub unreachable-requires : goal.unreachable-requires
unreachable-requires c =
    let a = c.self.inside in
    no_fault (clean_answer a.told.state) c.in_default.field-0 (sym c.in_default.is ∙ c.clean.ensures.answer ∙ clean_answered a.region a.target a.user a.hand.items a.attached a.longest a.told c.self.invariant)

pub invariant_of-self : goal.invariant_of-self
invariant_of-self c =
    let a = c.self.inside in
    subst (λ (k : RingDevice). IsRing c.clean.new.region c.clean.new.self a.user a.hand.items a.attached a.longest k) (sym c.cleaned.ensures.whole)
    (clean_keeps a.region c.clean.new.region a.target c.clean.new.self a.user a.hand.items a.attached a.longest a.told c.self.invariant c.clean.ensures.target c.clean.ensures.region)

pub returns-clause-answer : goal.returns-clause-answer
returns-clause-answer c =
    let a = c.self.inside in
    subst (λ (k : RingDevice). c.in-Ok.logged ≡ clean_answer k.state) c.self.view_is
    (same_count c.in-Ok.logged (clean_answer a.told.state) (sym c.in-Ok.is ∙ c.clean.ensures.answer ∙ clean_answered a.region a.target a.user a.hand.items a.attached a.longest a.told c.self.invariant))

pub returns-clause-accepted : goal.returns-clause-accepted
returns-clause-accepted c =
    let a = c.self.inside in
    subst (λ (k : RingDevice). c.cleaned.new.self.state.accepted ≡ k.state.accepted) c.self.view_is (ap (λ (d : DeviceState). d.accepted) c.cleaned.ensures.state ∙ accepted_cleaned a.told.state)
