use Rattle.std.proofs.Common.{length, ap, arith}
use Rattle.user_lib.specs.Given.{OrderState, keys_of}
use Rattle.user_lib.proofs.InOrder.{keys_in_line}
use Rattle.user_lib.proofs.order.Order.in_line.Goals as goal

pub returns-clause-parked : goal.returns-clause-parked
returns-clause-parked c =
    let k = keys_in_line c.self.inside.any_order c.self.inside.line.items c.self.inside.rows c.self.inside.past c.self.invariant.0 in
    let v = ap (λ (o : OrderState). length (keys_of o.given)) c.self.view_is in
    omega (arith, k, v, c.len.ensures, c.self.inside.line.ok.0)
