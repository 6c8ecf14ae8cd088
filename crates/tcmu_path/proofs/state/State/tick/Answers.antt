use Rattle.std.proofs.Common.{sym, ◌∙◌, arith}
use Rattle.tcmu_path.proofs.state.State.tick.Goals as goal

pub invariant_of-self : goal.invariant_of-self
invariant_of-self c =
    let kept = c.end_by.ensures.kept in
    record {
      held_is = c.self.invariant.held_is ∙ sym (kept.blocks c.self.inside.settings.pages);
      placed_room = omega (arith, kept.to_place, c.self.invariant.placed_room);
      log_room = c.end_by.ensures.room;
      within = c.self.invariant.within;
      ordered = c.self.invariant.ordered;
    }
