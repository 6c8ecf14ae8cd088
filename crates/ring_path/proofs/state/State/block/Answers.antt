use Rattle.std.proofs.Common.{◌≡◌, true, sym, ap, ◌∙◌, subst}
use Rattle.tcmu_model.specs.BlockLists.{kept_lists}
use Rattle.tcmu_model.specs.Device.{DeviceState}
use Rattle.tcmu_model.specs.Events.{after_block, block_answer}
use Rattle.ring_path.proofs.Ticks.{accepted_blocked, block_answered, block_keeps}
use Rattle.ring_path.specs.Devices.{RingDevice}
use Rattle.ring_path.specs.Rings.{IsRing}
use Rattle.ring_path.proofs.state.State.block.Goals as goal

pub invariant_of-self : goal.invariant_of-self
invariant_of-self c =
    let a = c.self.inside in
    subst (λ (k : RingDevice). IsRing a.region c.block-changed.new.self a.user a.hand.items a.attached a.longest k) (sym c.blocked.ensures.whole)
    (block_keeps a.region a.target c.block-changed.new.self a.user a.hand.items a.attached a.longest a.told true c.self.invariant c.block-changed.ensures.target)

pub returns-clause-answer : goal.returns-clause-answer
returns-clause-answer c =
    let a = c.self.inside in
    subst (λ (k : RingDevice). c.block-changed.result ≡ block_answer k.state true) c.self.view_is
    (block_answered a.region a.target a.user a.hand.items a.attached a.longest a.told true c.block-changed.result c.self.invariant c.block-changed.ensures.answer)

pub returns-clause-after : goal.returns-clause-after
returns-clause-after c = subst (λ (k : RingDevice). c.blocked.new.self.state ≡ after_block k.state true) c.self.view_is c.blocked.ensures.state

pub returns-clause-lists : goal.returns-clause-lists
returns-clause-lists c = subst (λ (k : RingDevice). c.blocked.new.self.lists ≡ kept_lists c.blocked.new.self.state k.lists) c.self.view_is c.blocked.ensures.lists

pub returns-clause-accepted : goal.returns-clause-accepted
returns-clause-accepted c =
    let a = c.self.inside in
    subst (λ (k : RingDevice). c.blocked.new.self.state.accepted ≡ k.state.accepted) c.self.view_is (ap (λ (d : DeviceState). d.accepted) c.blocked.ensures.state ∙ accepted_blocked a.told.state true)
