use Rattle.std.proofs.Common.{◌≡◌, ◌-◌, ◌+◌, ◌≤◌, ◌<◌, ◌++◌, ◌∷◌, [], Some, slice_set, refl, sym, ap, subst, ◌∙◌, arith}
use Rattle.region_model.specs.Pending.{PendingData}
use Rattle.target_table.specs.Kept.{rows_of}
use Rattle.target_table.proofs.Ordered.{all-precede-same}
use Rattle.target_table.proofs.Added.{Adding, last-free, added-fresh, added-kept, added-view, length-added}
use Rattle.target_table.proofs.table.Table.add.Goals as goal

pub overflow_sub-id : goal.overflow_sub-id
overflow_sub-id c = (last-free _ _ _ _ _ _ c.self.invariant.kept c.take_last-id.ensures.items).low

-- the command as it is kept
abbrev stored : (c : goal.After-append) → PendingData
stored c = record {
  serial = c.pending.inside.serial;
  init = c.pending.inside.init;
  tag = c.pending.inside.tag;
  in_len = c.pending.inside.in_len;
  blocks = c.pending.inside.blocks.items;
  deadline = c.pending.inside.deadline;
  expired = Rattle.std.proofs.Common.false;
  buffer = c.pending.inside.buffer.items;
}

adding : (c : goal.After-append) → Adding c.self.inside.places.items c.self.inside.free.items c.take_last-id.new.ids.items c.self.inside.order.items c.self.inside.expired c.take_last-id.result (stored c)
adding c = record {
  kept = c.self.invariant.kept;
  last = c.take_last-id.ensures.items;
  behind =
      all-precede-same (rows_of c.self.inside.places.items c.self.inside.order.items) c.args.pending (stored c)
      (ap (λ p. p.serial) (sym c.pending.view_is)) (ap (λ p. p.deadline) (sym c.pending.view_is))
      (rw (← c.self.view_is) at c.requires.last);
  waiting = refl;
}

pub invariant_of-self : goal.invariant_of-self
invariant_of-self c =
    let n = length-added c.self.inside.places.items (c.take_last-id.result - 1) (Some (stored c)) in
    let a = c.append.ensures.capacity in
    let b = c.take_last-id.ensures.capacity in
    let d = c.self.invariant.order_room in
    let e = c.self.invariant.free_room in
    record {
      kept = rw c.append.ensures.items (added-kept _ _ _ _ _ _ _ (adding c));
      order_room = omega arith;
      free_room = omega arith;
    }

pub returns-clause-new : goal.returns-clause-new
returns-clause-new c = rw (← c.self.view_is, ← c.pending.view_is) (added-view _ _ _ _ _ _ _ _ (adding c) c.append.ensures.items)

pub returns-clause-low : goal.returns-clause-low
returns-clause-low c = (last-free _ _ _ _ _ _ c.self.invariant.kept c.take_last-id.ensures.items).low

pub returns-clause-fresh : goal.returns-clause-fresh
returns-clause-fresh c = rw (← c.self.view_is) (added-fresh _ _ _ _ _ _ _ (adding c))
