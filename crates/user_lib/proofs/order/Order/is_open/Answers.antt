use Rattle.std.proofs.Common.{nat_lt, ap, ◌∙◌}
use Rattle.std.specs.List.{list_any}
use Rattle.user_lib.specs.Given.{OrderState, is_open}
use Rattle.user_lib.proofs.ById.{some_counted}
use Rattle.user_lib.proofs.order.Order.is_open.Goals as goal

pub returns : goal.returns
returns c =
    ap (λ n. nat_lt 0 n) (c.count.ensures ∙ (c.self.invariant.0.rows_of c.args.id).count)
    ∙ (some_counted c.args.id c.self.inside.past ∙ ap (λ (o : OrderState). list_any (is_open c.args.id) o.given) c.self.view_is)
