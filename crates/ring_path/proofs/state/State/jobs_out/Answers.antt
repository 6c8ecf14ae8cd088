use Rattle.std.proofs.Common.{◌≡◌, ◌+◌, length, ap, subst, arith}
use Rattle.tcmu_model.specs.Events.{count_in_hand}
use Rattle.ring_laws.specs.Restarted.{count_parked}
use Rattle.user_lib.specs.declared.numbers.UserNumbers.{UserNumbers}
use Rattle.ring_path.specs.Devices.{RingDevice}
use Rattle.ring_path.proofs.Resets.{jobs_out}
use Rattle.ring_path.proofs.Shows.{in_hand_few}
use Rattle.ring_path.proofs.state.State.jobs_out.Goals as goal

pub overflow_add-result : goal.overflow_add-result
overflow_add-result c =
    let a = c.self.inside in
    let p : c.numbers.result.parked ≡ count_parked a.user.jobs = ap (λ (x : UserNumbers). x.parked) c.numbers.ensures in
    let q : length a.hand.items + count_parked a.user.jobs ≡ count_in_hand a.told.state = jobs_out a.region a.target a.user a.hand.items a.told.state a.told.lists c.self.invariant.stands in
    let few = in_hand_few a.told.state c.self.invariant.stands.sound in
    omega (arith, c.len.ensures.value, p, q, few)

pub returns : goal.returns
returns c =
    let a = c.self.inside in
    let p : c.numbers.result.parked ≡ count_parked a.user.jobs = ap (λ (x : UserNumbers). x.parked) c.numbers.ensures in
    let q : length a.hand.items + count_parked a.user.jobs ≡ count_in_hand a.told.state = jobs_out a.region a.target a.user a.hand.items a.told.state a.told.lists c.self.invariant.stands in
    subst (λ (k : RingDevice). c.len.result + c.numbers.result.parked ≡ count_in_hand k.state) c.self.view_is (omega (arith, c.len.ensures.value, p, q))
