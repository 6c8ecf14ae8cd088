use Rattle.std.proofs.Common.{List, length, sym, ap, ◌∙◌, subst, arith}
use Rattle.slab.specs.Slab.{slab_len}
use Rattle.user_lib.specs.declared.past.Given.{Given}
use Rattle.user_lib.specs.Given.{AreKeyed}
use Rattle.user_lib.proofs.Keys.{awaited_most, keyed_grown}
use Rattle.user_lib.proofs.jobs.Jobs.reserve.Goals as goal

pub invariant_of-self : goal.invariant_of-self
invariant_of-self c =
    record {
      keyed = keyed_grown c.self.inside.parked c.reserve.new.self c.self.inside.order.given c.reserve.ensures.rest_kept c.self.invariant.keyed;
      room = λ n. let r = c.self.invariant.room n in let m = c.reserve.ensures.capacity in omega (arith, r, m);
    }

pub invariant_of-self-2 : goal.invariant_of-self-2
invariant_of-self-2 c =
    record {
      keyed =
          subst (λ (gs : List Given). AreKeyed c.reserve.new.self gs) (sym c.reserve-2.ensures.given)
          (keyed_grown c.self.inside.parked c.reserve.new.self c.self.inside.order.given c.reserve.ensures.rest_kept c.self.invariant.keyed);
      room = λ n.
          let all = c.in_line.ensures.all (sym c.reserve-2.ensures.order ∙ n) in
          let some = c.in_line.ensures.parked in
          let count = c.self.invariant.keyed.count in
          let len = c.len.ensures in
          let room = c.in_ok-reserve.ensures.room in
          let same = ap slab_len c.reserve.ensures.rest_kept in
          omega (arith, all, some, count, len, room, same, ap length c.reserve-2.ensures.given, awaited_most c.reserve-2.new.self.ready);
    }
