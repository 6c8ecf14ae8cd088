use Rattle.std.proofs.Common.{◌≡◌, Some, sym, ap, ◌∙◌, subst}
use Rattle.tcmu_types.specs.Lists.{first_of}
use Rattle.tcmu_types.specs.declared.answer.Respond.TheVariants as respond
use Rattle.tcmu_model.specs.Events.{respond_answer}
use Rattle.region_model.specs.Sides.{Parked}
use Rattle.ring_laws.specs.Handed.{is_answered}
use Rattle.tcmu_model.specs.Device.{DeviceState}
use Rattle.ring_path.specs.Devices.{RingDevice}
use Rattle.ring_path.specs.Rings.{IsRing}
use Rattle.ring_path.proofs.Responds.{accepted_responded, any_answered, job_is_open, job_is_whole, none_answered, refused_answer, refused_keeps, replied_job, respond_keeps, some_answered}
use Rattle.ring_path.proofs.state.State.respond.Goals as goal

pub invariant_of-self : goal.invariant_of-self
invariant_of-self c =
    let a = c.self.inside in
    let n = none_answered c.args.serial a.hand.items (sym c.in_default.is ∙ c.take_answered.ensures.job) in
    subst (λ (k : RingDevice). IsRing a.region a.target a.user c.take_answered.new.self.items a.attached a.longest k) (sym c.responded.ensures.whole)
    (refused_keeps a.region a.target a.user a.hand.items c.take_answered.new.self.items a.attached a.longest a.told c.args.serial c.self.invariant n (c.take_answered.ensures.same n))

pub returns-in_default-clause-answer : goal.returns-in_default-clause-answer
returns-in_default-clause-answer c =
    let a = c.self.inside in
    let n = none_answered c.args.serial a.hand.items (sym c.in_default.is ∙ c.take_answered.ensures.job) in
    subst (λ (k : RingDevice). respond.NotHandled c.args.serial ≡ respond_answer k.state c.args.serial) c.self.view_is (refused_answer a.region a.target a.user a.hand.items a.attached a.longest a.told c.args.serial c.self.invariant n)

pub returns-in_default-clause-accepted : goal.returns-in_default-clause-accepted
returns-in_default-clause-accepted c =
    let a = c.self.inside in
    subst (λ (k : RingDevice). c.responded.new.self.state.accepted ≡ k.state.accepted) c.self.view_is (ap (λ (d : DeviceState). d.accepted) c.responded.ensures.state ∙ accepted_responded a.told.state c.args.serial)

pub respond-answer-requires-clause-is_open : goal.respond-answer-requires-clause-is_open
respond-answer-requires-clause-is_open c =
    let a = c.self.inside in
    let s = c.args.serial in
    let e = sym c.in-Some.is ∙ c.take_answered.ensures.job in
    let f : first_of (is_answered s) a.hand.items ≡ Some (replied_job s c.answered.inside.job c.answered.inside.reply) =
    subst (λ (p : Parked). first_of (is_answered s) a.hand.items ≡ Some (replied_job s p.job p.reply)) (sym c.answered.view_is) (some_answered s a.hand.items c.in-Some.answered e) in
    job_is_open a.region a.target a.user a.hand.items a.told.state a.told.lists s c.answered.inside.job c.answered.inside.reply c.self.invariant.stands f

pub respond-answer-requires-clause-whole : goal.respond-answer-requires-clause-whole
respond-answer-requires-clause-whole c =
    let a = c.self.inside in
    let s = c.args.serial in
    let e = sym c.in-Some.is ∙ c.take_answered.ensures.job in
    let f : first_of (is_answered s) a.hand.items ≡ Some (replied_job s c.answered.inside.job c.answered.inside.reply) =
    subst (λ (p : Parked). first_of (is_answered s) a.hand.items ≡ Some (replied_job s p.job p.reply)) (sym c.answered.view_is) (some_answered s a.hand.items c.in-Some.answered e) in
    job_is_whole a.region a.target a.user a.hand.items a.told.state a.told.lists s c.answered.inside.job c.answered.inside.reply c.self.invariant.stands f

pub invariant_of-self-2 : goal.invariant_of-self-2
invariant_of-self-2 c =
    let a = c.self.inside in
    let s = c.args.serial in
    let e = sym c.in-Some.is ∙ c.take_answered.ensures.job in
    let f : first_of (is_answered s) a.hand.items ≡ Some (replied_job s c.answered.inside.job c.answered.inside.reply) =
    subst (λ (p : Parked). first_of (is_answered s) a.hand.items ≡ Some (replied_job s p.job p.reply)) (sym c.answered.view_is) (some_answered s a.hand.items c.in-Some.answered e) in
    subst (λ (k : RingDevice). IsRing c.respond-answer.new.region a.target c.respond-answer.new.self c.take_answered.new.self.items a.attached a.longest k) (sym c.responded-2.ensures.whole)
    (respond_keeps a.region c.respond-answer.new.region a.target a.user c.respond-answer.new.self a.hand.items c.take_answered.new.self.items a.attached a.longest a.told s c.answered.inside.job c.answered.inside.reply c.respond-answer.result c.self.invariant f
    c.respond-answer.ensures.device (c.take_answered.ensures.rest (any_answered s a.hand.items (replied_job s c.answered.inside.job c.answered.inside.reply) f)))

pub returns-clause-answer : goal.returns-clause-answer
returns-clause-answer c =
    let a = c.self.inside in
    let s = c.args.serial in
    let e = sym c.in-Some.is ∙ c.take_answered.ensures.job in
    let f : first_of (is_answered s) a.hand.items ≡ Some (replied_job s c.answered.inside.job c.answered.inside.reply) =
    subst (λ (p : Parked). first_of (is_answered s) a.hand.items ≡ Some (replied_job s p.job p.reply)) (sym c.answered.view_is) (some_answered s a.hand.items c.in-Some.answered e) in
    subst (λ (k : RingDevice). c.respond-answer.result ≡ respond_answer k.state s) c.self.view_is
    (c.respond-answer.ensures.device a.target a.hand.items a.told.state a.told.lists s c.self.invariant.stands f).answer

pub returns-clause-accepted : goal.returns-clause-accepted
returns-clause-accepted c =
    let a = c.self.inside in
    subst (λ (k : RingDevice). c.responded-2.new.self.state.accepted ≡ k.state.accepted) c.self.view_is (ap (λ (d : DeviceState). d.accepted) c.responded-2.ensures.state ∙ accepted_responded a.told.state c.args.serial)
