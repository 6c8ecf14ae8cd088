use Rattle.std.proofs.Common.{◌≡◌, true, false, sym, ap, ◌∙◌, subst}
use Rattle.std.proofs.lemmas.Bool.{not-false, not-true}
use Rattle.tcmu_types.specs.declared.answer.Reset.TheVariants as reset
use Rattle.tcmu_model.specs.Events.{count_in_hand, reset_answer}
use Rattle.target_side.specs.declared.numbers.TargetNumbers.{TargetNumbers}
use Rattle.tcmu_model.specs.Device.{DeviceState}
use Rattle.ring_path.specs.Devices.{RingDevice}
use Rattle.ring_path.specs.Rings.{IsRing}
use Rattle.ring_path.proofs.Resets.{accepted_reset, out_answer, out_keeps, unblocked_answer, unblocked_keeps}
use Rattle.ring_path.proofs.state.State.reset.Goals as goal

pub invariant_of-self : goal.invariant_of-self
invariant_of-self c =
    let a = c.self.inside in
    let off : a.told.state.blocked ≡ false = sym c.self.invariant.stands.represents.target.blocked ∙ sym (ap (λ (x : TargetNumbers). x.blocked) c.numbers.ensures.value) ∙ not-true c.numbers.result.blocked c.if-not-numbers.true in
    subst (λ (k : RingDevice). IsRing a.region a.target a.user a.hand.items a.attached a.longest k) (sym c.reset.ensures.whole) (unblocked_keeps a.region a.target a.user a.hand.items a.attached a.longest a.told c.args.level c.self.invariant off)

pub returns-then-not-numbers-clause-answer : goal.returns-then-not-numbers-clause-answer
returns-then-not-numbers-clause-answer c =
    let a = c.self.inside in
    let off : a.told.state.blocked ≡ false = sym c.self.invariant.stands.represents.target.blocked ∙ sym (ap (λ (x : TargetNumbers). x.blocked) c.numbers.ensures.value) ∙ not-true c.numbers.result.blocked c.if-not-numbers.true in
    subst (λ (k : RingDevice). reset.NotBlocked ≡ reset_answer k.state c.args.level) c.self.view_is (unblocked_answer a.told.state c.args.level off)

pub returns-then-not-numbers-clause-accepted : goal.returns-then-not-numbers-clause-accepted
returns-then-not-numbers-clause-accepted c =
    let a = c.self.inside in
    subst (λ (k : RingDevice). c.reset.new.self.state.accepted ≡ k.state.accepted) c.self.view_is (ap (λ (d : DeviceState). d.accepted) c.reset.ensures.state ∙ accepted_reset a.told.state c.args.level)

pub invariant_of-self-then-out-gt0 : goal.invariant_of-self-then-out-gt0
invariant_of-self-then-out-gt0 c =
    let a = c.self.inside in
    let on : a.told.state.blocked ≡ true = sym c.self.invariant.stands.represents.target.blocked ∙ sym (ap (λ (x : TargetNumbers). x.blocked) c.numbers.ensures.value) ∙ not-false c.numbers.result.blocked c.if-not-numbers.false in
    let count : c.jobs_out-out.result ≡ count_in_hand a.told.state = subst (λ (k : RingDevice). c.jobs_out-out.result ≡ count_in_hand k.state) (sym c.self.view_is) c.jobs_out-out.ensures in
    subst (λ (k : RingDevice). IsRing a.region a.target a.user a.hand.items a.attached a.longest k) (sym c.reset-then-out-gt0.ensures.whole) (out_keeps a.region a.target a.user a.hand.items a.attached a.longest a.told c.args.level c.jobs_out-out.result c.self.invariant on count c.if-out-gt0.true)

pub returns-then-out-gt0-clause-answer : goal.returns-then-out-gt0-clause-answer
returns-then-out-gt0-clause-answer c =
    let a = c.self.inside in
    let on : a.told.state.blocked ≡ true = sym c.self.invariant.stands.represents.target.blocked ∙ sym (ap (λ (x : TargetNumbers). x.blocked) c.numbers.ensures.value) ∙ not-false c.numbers.result.blocked c.if-not-numbers.false in
    let count : c.jobs_out-out.result ≡ count_in_hand a.told.state = subst (λ (k : RingDevice). c.jobs_out-out.result ≡ count_in_hand k.state) (sym c.self.view_is) c.jobs_out-out.ensures in
    subst (λ (k : RingDevice). reset.HandlersOut c.jobs_out-out.result ≡ reset_answer k.state c.args.level) c.self.view_is (out_answer a.told.state c.args.level c.jobs_out-out.result on count c.if-out-gt0.true)

pub returns-then-out-gt0-clause-accepted : goal.returns-then-out-gt0-clause-accepted
returns-then-out-gt0-clause-accepted c =
    let a = c.self.inside in
    subst (λ (k : RingDevice). c.reset-then-out-gt0.new.self.state.accepted ≡ k.state.accepted) c.self.view_is (ap (λ (d : DeviceState). d.accepted) c.reset-then-out-gt0.ensures.state ∙ accepted_reset a.told.state c.args.level)
