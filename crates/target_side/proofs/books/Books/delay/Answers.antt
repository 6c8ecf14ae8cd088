use Rattle.std.proofs.Common.{◌+◌, List, [], ◌∷◌, ◌++◌, ap, subst, ◌∙◌}
use Rattle.tcmu_types.specs.Data.{CommandData}
use Rattle.tcmu_model.specs.Device.{Delayed}
use Rattle.region_model.specs.Sides.{TargetState}
use Rattle.target_side.specs.Books.{books_of}
use Rattle.target_side.specs.Submits.{Delays}
use Rattle.target_side.proofs.Laying.{delays}
use Rattle.target_side.proofs.books.Books.delay.Goals as goal

pub returns-clause-delayed : goal.returns-clause-delayed
returns-clause-delayed c =
    let b = c.self.inside in
    let waiting = c.push.ensures
    ∙ (ap (λ (ws : List Delayed). ws ++ record { serial = b.accepted + 1; command = c.in_ok-command.command; leaves = b.now + b.qfull } ∷ []) c.in_ok-reserve-2.ensures.items
    ∙ ap (λ (d : CommandData). b.delayed.items ++ record { serial = b.accepted + 1; command = d; leaves = b.now + b.qfull } ∷ []) c.in_ok-command.ensures) in
    subst
    (λ (t : TargetState). Delays t c.args.command.now (b.accepted + 1) (books_of b.flags b.timeout b.qfull b.now b.blocked (b.accepted + 1) b.entries c.push.new.self.items b.laid b.cleared b.broken c.reserve.new.self.items))
    c.self.view_is
    (delays b.flags b.timeout b.qfull b.now b.blocked b.accepted b.delayed.items c.push.new.self.items b.laid b.cleared b.broken b.log.items c.reserve.new.self.items b.entries c.args.command.now waiting c.in_ok-reserve.ensures.items)
