use Rattle.std.proofs.Common.{◌≡◌, ◌≤◌, length, Some, IsSome, sym, ap, ◌∙◌, subst}
use Rattle.tcmu_types.specs.Rules.{IsReply}
use Rattle.tcmu_model.specs.Device.{DeviceState, Unfinished}
use Rattle.tcmu_model.specs.Events.{command_out}
use Rattle.ring_path.specs.Devices.{RingDevice}
use Rattle.ring_path.specs.Rings.{IsRing}
use Rattle.ring_path.proofs.Handles.{accepted_handled, handle_keeps, is_asked_for, reply_fits}
use Rattle.ring_path.proofs.state.State.keep.Goals as goal

pub answer-requires-clause-asked : goal.answer-requires-clause-asked
answer-requires-clause-asked c =
    let a = c.self.inside in
    is_asked_for a.region a.target a.user a.hand.items a.told.state a.told.lists c.args.serial c.self.invariant.stands
    (subst (λ (k : RingDevice). IsSome (command_out k.state c.args.serial)) (sym c.self.view_is) c.requires.there)

pub answer-requires-clause-fits : goal.answer-requires-clause-fits
answer-requires-clause-fits c =
    let a = c.self.inside in
    reply_fits a.region a.target a.user a.hand.items a.told.state a.told.lists c.args.serial (length c.args.reply.payload) c.self.invariant.stands
    (subst (λ (k : RingDevice). (v : Unfinished) → command_out k.state c.args.serial ≡ Some v → length c.args.reply.payload ≤ v.command.in_len) (sym c.self.view_is) c.requires.fits)

pub invariant_of-self : goal.invariant_of-self
invariant_of-self c =
    let a = c.self.inside in
    subst (λ (k : RingDevice). IsRing a.region a.target a.user c.answer.new.self.items a.attached a.longest k) (sym c.handled.ensures.whole)
    (handle_keeps a.region a.target a.user a.hand.items c.answer.new.self.items a.attached a.longest a.told c.args.serial c.args.reply c.self.invariant (subst IsReply c.reply.view_is c.reply.invariant)
    (subst (λ (k : RingDevice). IsSome (command_out k.state c.args.serial)) (sym c.self.view_is) c.requires.there)
    (subst (λ (k : RingDevice). (v : Unfinished) → command_out k.state c.args.serial ≡ Some v → length c.args.reply.payload ≤ v.command.in_len) (sym c.self.view_is) c.requires.fits)
    c.answer.ensures)

pub returns-clause-accepted : goal.returns-clause-accepted
returns-clause-accepted c =
    let a = c.self.inside in
    subst (λ (k : RingDevice). c.handled.new.self.state.accepted ≡ k.state.accepted) c.self.view_is (ap (λ (d : DeviceState). d.accepted) c.handled.ensures.state ∙ accepted_handled a.told.state c.args.serial c.args.reply)
