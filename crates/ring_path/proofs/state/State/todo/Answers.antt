use Rattle.std.proofs.Common.{◌≡◌, subst, not, ◌==◌}
use Rattle.tcmu_model.specs.Drain.{nothing_to_do, todo_of}
use Rattle.ring_path.specs.Devices.{RingDevice}
use Rattle.ring_path.proofs.Shows.{todo_by, todo_detached, todo_told}
use Rattle.ring_path.proofs.state.State.todo.Goals as goal

pub returns-then-not-self : goal.returns-then-not-self
returns-then-not-self c =
    let a = c.self.inside in
    subst (λ (k : RingDevice). nothing_to_do ≡ todo_of k.state) c.self.view_is (todo_detached a.region a.target a.user a.hand.items a.attached a.longest a.told c.self.invariant c.if-not-self.true)

pub returns : goal.returns
returns c =
    let a = c.self.inside in
    subst (λ (k : RingDevice). todo_by c.least_asked.result c.least_answered.result c.numbers-user.result.moves (not (c.tail.result == c.numbers-target.result.cleaned)) c.numbers-target.result.enters (not (c.numbers-user.result.place == c.numbers-target.result.head)) ≡ todo_of k.state) c.self.view_is
    (todo_told a.region a.target a.user a.hand.items a.attached a.longest a.told c.numbers-target.result c.numbers-user.result c.least_asked.result c.least_answered.result c.tail.result c.self.invariant c.if-not-self.false c.numbers-target.ensures.value c.numbers-user.ensures c.least_asked.ensures c.least_answered.ensures c.tail.ensures)
