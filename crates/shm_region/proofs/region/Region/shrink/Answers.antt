use Rattle.std.proofs.Common.{◌≡◌, ◌∙◌, ap, arith, length, ◌*◌}
use Rattle.std.proofs.lemmas.List.{length-take}
use Rattle.shm_region.proofs.region.Region.shrink.Goals as goal
use Rattle.region_model.proofs.Areas.{sized-take}

pub invariant_of-self : goal.invariant_of-self
invariant_of-self c =
    let old = c.self.invariant in
    let fewer : length c.truncate.new.self.items ≡ _ = ap length c.truncate.ensures.items ∙ length-take c.args.blocks c.self.inside.blocks.items in
    record {
      least = old.least;
      most = old.most;
      mailbox = old.mailbox;
      whole = old.whole;
      count = omega arith;
      sized = rw c.truncate.ensures.items (sized-take (4096 * c.self.inside.pages) c.args.blocks c.self.inside.blocks.items old.sized);
    }
