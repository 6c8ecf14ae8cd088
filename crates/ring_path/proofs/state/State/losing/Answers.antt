use Rattle.std.proofs.Common.{◌≡◌, ◌+◌, ◌-◌, length, refl, ap, subst, arith}
use Rattle.tcmu_model.specs.Events.{restart_answer}
use Rattle.ring_laws.specs.Restarted.{count_parked}
use Rattle.user_lib.specs.declared.numbers.UserNumbers.{UserNumbers}
use Rattle.ring_path.specs.Devices.{RingDevice}
use Rattle.ring_path.proofs.Restarts.{losing_attached, losing_detached}
use Rattle.ring_path.proofs.Shows.{losing_few}
use Rattle.ring_path.proofs.state.State.losing.Goals as goal

pub returns-then-not-self : goal.returns-then-not-self
returns-then-not-self c =
    let a = c.self.inside in
    subst (λ (k : RingDevice). 0 ≡ restart_answer k.state) c.self.view_is (losing_detached a.region a.target a.user a.hand.items a.attached a.longest a.told c.self.invariant c.if-not-self.true)

pub overflow_add-result : goal.overflow_add-result
overflow_add-result c =
    let a = c.self.inside in
    let p : c.numbers-user.result.parked ≡ count_parked a.user.jobs = ap (λ (x : UserNumbers). x.parked) c.numbers-user.ensures in
    let q : c.numbers-user.result.placed ≡ a.user.placed = ap (λ (x : UserNumbers). x.placed) c.numbers-user.ensures in
    let r : c.numbers-user.result.published ≡ a.user.published = ap (λ (x : UserNumbers). x.published) c.numbers-user.ensures in
    let all : (length a.hand.items + count_parked a.user.jobs) + (a.user.placed - a.user.published) ≡ restart_answer a.told.state = losing_attached a.region a.target a.user a.hand.items a.attached a.longest a.told ((length a.hand.items + count_parked a.user.jobs) + (a.user.placed - a.user.published)) c.self.invariant c.if-not-self.false refl in
    let few = losing_few a.told.state c.self.invariant.stands.sound in
    omega (arith, c.len.ensures.value, p, all, few)

pub overflow_add-result-2 : goal.overflow_add-result-2
overflow_add-result-2 c =
    let a = c.self.inside in
    let p : c.numbers-user.result.parked ≡ count_parked a.user.jobs = ap (λ (x : UserNumbers). x.parked) c.numbers-user.ensures in
    let q : c.numbers-user.result.placed ≡ a.user.placed = ap (λ (x : UserNumbers). x.placed) c.numbers-user.ensures in
    let r : c.numbers-user.result.published ≡ a.user.published = ap (λ (x : UserNumbers). x.published) c.numbers-user.ensures in
    let all : (length a.hand.items + count_parked a.user.jobs) + (a.user.placed - a.user.published) ≡ restart_answer a.told.state = losing_attached a.region a.target a.user a.hand.items a.attached a.longest a.told ((length a.hand.items + count_parked a.user.jobs) + (a.user.placed - a.user.published)) c.self.invariant c.if-not-self.false refl in
    let few = losing_few a.told.state c.self.invariant.stands.sound in
    omega (arith, c.len.ensures.value, p, q, r, all, few)

pub returns : goal.returns
returns c =
    let a = c.self.inside in
    let p : c.numbers-user.result.parked ≡ count_parked a.user.jobs = ap (λ (x : UserNumbers). x.parked) c.numbers-user.ensures in
    let q : c.numbers-user.result.placed ≡ a.user.placed = ap (λ (x : UserNumbers). x.placed) c.numbers-user.ensures in
    let r : c.numbers-user.result.published ≡ a.user.published = ap (λ (x : UserNumbers). x.published) c.numbers-user.ensures in
    let all : (length a.hand.items + count_parked a.user.jobs) + (a.user.placed - a.user.published) ≡ restart_answer a.told.state = losing_attached a.region a.target a.user a.hand.items a.attached a.longest a.told ((length a.hand.items + count_parked a.user.jobs) + (a.user.placed - a.user.published)) c.self.invariant c.if-not-self.false refl in
    let few = losing_few a.told.state c.self.invariant.stands.sound in
    subst (λ (k : RingDevice). (c.len.result + c.numbers-user.result.parked) + (c.numbers-user.result.placed - c.numbers-user.result.published) ≡ restart_answer k.state) c.self.view_is (omega (arith, c.len.ensures.value, p, q, r, all))
