use Rattle.std.proofs.Common.{◌≡◌, true, sym, ap, ◌∙◌, subst, is_ok}
use Rattle.std.proofs.lemmas.Bool.{false≢true}
use Rattle.tcmu_types.specs.declared.answer.Reset.TheVariants as reset
use Rattle.tcmu_model.specs.Events.{count_in_hand, reset_answer}
use Rattle.tcmu_model.specs.Device.{DeviceState}
use Rattle.ring_path.specs.Devices.{RingDevice}
use Rattle.ring_path.specs.Rings.{IsRing}
use Rattle.ring_path.proofs.Resets.{accepted_reset, attaches, pages_emptied, reset_answered, reset_keeps, ring_emptied}
use Rattle.ring_path.proofs.state.State.empty.Goals as goal

pub reattach-requires-clause-ring : goal.reattach-requires-clause-ring
reattach-requires-clause-ring c =
    let a = c.self.inside in
    ring_emptied a.region c.reset-logged.new.region a.target a.user a.hand.items a.told.state a.told.lists c.args.level c.self.invariant.stands
    (subst (λ (k : RingDevice). k.state.blocked ≡ true) (sym c.self.view_is) c.requires.blocked) (subst (λ (k : RingDevice). count_in_hand k.state ≡ 0) (sym c.self.view_is) c.requires.none) c.reset-logged.ensures.region

pub reattach-requires-clause-pages : goal.reattach-requires-clause-pages
reattach-requires-clause-pages c =
    let a = c.self.inside in
    pages_emptied a.region c.reset-logged.new.region a.target a.user a.hand.items a.told.state a.told.lists c.args.level c.self.invariant.stands
    (subst (λ (k : RingDevice). k.state.blocked ≡ true) (sym c.self.view_is) c.requires.blocked) (subst (λ (k : RingDevice). count_in_hand k.state ≡ 0) (sym c.self.view_is) c.requires.none) c.reset-logged.ensures.region

pub unreachable-requires : goal.unreachable-requires
unreachable-requires c =
    let a = c.self.inside in
    let made = attaches a.region c.reset-logged.new.region c.reattach.new.region a.target a.user c.reattach.new.self a.hand.items a.told.state a.told.lists c.args.level (is_ok c.reattach.result) c.self.invariant.stands
    (subst (λ (k : RingDevice). k.state.blocked ≡ true) (sym c.self.view_is) c.requires.blocked) (subst (λ (k : RingDevice). count_in_hand k.state ≡ 0) (sym c.self.view_is) c.requires.none) c.reset-logged.ensures.region c.reattach.ensures.device in
    false≢true (sym (ap is_ok c.in_default.is) ∙ made)

pub invariant_of-self : goal.invariant_of-self
invariant_of-self c =
    let a = c.self.inside in
    subst (λ (k : RingDevice). IsRing c.reattach.new.region c.reset-logged.new.self c.reattach.new.self a.hand.items true 0 k) (sym c.reset.ensures.whole)
    (reset_keeps a.region c.reset-logged.new.region c.reattach.new.region a.target c.reset-logged.new.self a.user c.reattach.new.self a.hand.items a.attached a.longest a.told c.args.level (is_ok c.reattach.result) c.self.invariant
    (subst (λ (k : RingDevice). k.state.blocked ≡ true) (sym c.self.view_is) c.requires.blocked) (subst (λ (k : RingDevice). count_in_hand k.state ≡ 0) (sym c.self.view_is) c.requires.none) c.reset-logged.ensures.target c.reset-logged.ensures.region c.reattach.ensures.device)

pub returns-clause-answer : goal.returns-clause-answer
returns-clause-answer c =
    let a = c.self.inside in
    subst (λ (k : RingDevice). reset.Reset c.reset-logged.result ≡ reset_answer k.state c.args.level) c.self.view_is
    (reset_answered a.region a.target a.user a.hand.items a.attached a.longest a.told c.args.level c.reset-logged.result c.self.invariant
    (subst (λ (k : RingDevice). k.state.blocked ≡ true) (sym c.self.view_is) c.requires.blocked) (subst (λ (k : RingDevice). count_in_hand k.state ≡ 0) (sym c.self.view_is) c.requires.none) c.reset-logged.ensures.answer)

pub returns-clause-accepted : goal.returns-clause-accepted
returns-clause-accepted c =
    let a = c.self.inside in
    subst (λ (k : RingDevice). c.reset.new.self.state.accepted ≡ k.state.accepted) c.self.view_is (ap (λ (d : DeviceState). d.accepted) c.reset.ensures.state ∙ accepted_reset a.told.state c.args.level)
