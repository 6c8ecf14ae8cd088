use Rattle.std.proofs.Common.{ap, ◌∙◌}
use Rattle.user_lib.specs.Given.{OrderState}
use Rattle.user_lib.proofs.InOrder.{pop_counts}
use Rattle.user_lib.proofs.order.Order.pop.Goals as goal

pub pop-key-requires : goal.pop-key-requires
pop-key-requires c =
    pop_counts c.self.inside.any_order c.self.inside.line.items c.pop_front.new.self.items c.self.inside.rows c.self.inside.past c.in_ok-id.id (ap (λ (o : OrderState). o.any_order) c.self.view_is ∙ c.requires) c.in_ok-id.ensures.items
    c.self.invariant.0
