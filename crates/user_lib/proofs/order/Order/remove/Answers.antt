use Rattle.std.proofs.Common.{◌≡◌, true, sym, ap, ◌∙◌, subst, arith}
use Rattle.std.specs.List.{list_any}
use Rattle.user_lib.specs.Given.{OrderState, is_open}
use Rattle.user_lib.specs.ById.{IsOrder}
use Rattle.user_lib.proofs.ById.{open_counted}
use Rattle.user_lib.proofs.InOrder.{order_remove}
use Rattle.user_lib.proofs.order.Order.remove.Goals as goal

pub remove-requires : goal.remove-requires
remove-requires c =
    let there : list_any (is_open c.args.id) c.self.inside.past ≡ true = ap (λ (o : OrderState). list_any (is_open c.args.id) o.given) c.self.view_is ∙ c.requires.is_open in
    let n = (c.self.invariant.0.rows_of c.args.id).count in
    let k = open_counted c.args.id c.self.inside.past there in
    omega (arith, n, k)

pub invariant_of-self : goal.invariant_of-self
invariant_of-self c =
    let there : list_any (is_open c.args.id) c.self.inside.past ≡ true = ap (λ (o : OrderState). list_any (is_open c.args.id) o.given) c.self.view_is ∙ c.requires.is_open in
    let any = ap (λ (o : OrderState). o.any_order) c.self.view_is ∙ c.requires.order in (
      subst (λ gs. IsOrder c.self.inside.any_order c.self.inside.line.items c.remove.new.self gs) (sym c.removed.ensures)
          (order_remove c.self.inside.any_order c.self.inside.line.items c.self.inside.rows c.remove.new.self c.self.inside.past c.args.id any c.remove.ensures there c.self.invariant.0),
      tt,
    )
