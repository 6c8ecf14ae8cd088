use Rattle.std.proofs.Common.{◌-◌, List, take, drop, ap, ◌∙◌}
use Rattle.tcmu_model.specs.RingState.{RingState, Item, lengths}
use Rattle.tcmu_path.proofs.RingNumbers.{HasNumbers-clear}
use Rattle.tcmu_path.proofs.ring.Ring.clear.Goals as goal

pub invariant_of-self : goal.invariant_of-self
invariant_of-self c =
    let a = c.self.inside in
    let r : RingState = record { size = a.size; laid = a.laid.items; cleared = a.cleared; published = a.published; dispatched = a.dispatched } in
    HasNumbers-clear r a.head a.used a.cleared_commands a.published_commands c.lengths_of.result c.self.invariant
    (c.lengths_of.ensures ∙ ap (λ (xs : List Item). lengths (take (a.published - a.cleared) (drop a.cleared xs))) c.deref.ensures.value)
