use Rattle.std.proofs.Common.{◌++◌, ◌∷◌, [], cond, sym, subst}
use Rattle.user_lib.specs.ById.{IsOrder}
use Rattle.user_lib.proofs.InOrder.{order_push}
use Rattle.user_lib.proofs.order.Order.push.Goals as goal

pub invariant_of-self : goal.invariant_of-self
invariant_of-self c =
    let h = order_push c.self.inside.any_order c.self.inside.line.items c.self.inside.rows c.push.new.self c.self.inside.past c.args.id c.push.ensures c.self.invariant.0 in (
      subst (λ ids. IsOrder c.self.inside.any_order ids c.push.new.self c.pushed.new.self) (sym c.line_up.ensures)
          (subst (λ gs. IsOrder c.self.inside.any_order (cond c.self.inside.any_order c.self.inside.line.items (c.self.inside.line.items ++ c.args.id ∷ [])) c.push.new.self gs) (sym c.pushed.ensures) h),
      tt,
    )
