use Rattle.std.proofs.Common.{◌≡◌, ◌∙◌, ap, sym, arith, length, None, ◌*◌}
use Rattle.std.proofs.Math.ListN.{length-set}
use Rattle.region_model.specs.Regions.{RegionState}
use Rattle.shm_region.proofs.Sized.{sized-if, with_blocks}
use Rattle.shm_region.proofs.region.Region.take_block.Goals as goal
use Rattle.region_model.proofs.Areas.{sized-set}

pub invariant_of-self : goal.invariant_of-self
invariant_of-self c =
    let xs = c.self.inside.blocks.items in
    rw c.replace.ensures.after
    (with_blocks c.self.inside.front.items xs _ c.self.inside.pages c.self.invariant
    (omega (arith, length-set xs c.args.block None, c.self.invariant.count))
    (sized-set (4096 * c.self.inside.pages) xs c.args.block None tt c.self.invariant.sized))

pub returns-clause-size : goal.returns-clause-size
returns-clause-size c =
    let same : length c.self.inside.blocks.items ≡ length c.args.self.now.blocks = ap (λ (r : RegionState). length r.blocks) c.self.view_is in
    rw (← c.self.view_is)
    (sized-if (4096 * c.self.inside.pages) c.args.block c.replace.result _ c.self.inside.blocks.items c.self.invariant.sized (omega (arith, c.requires))
    (sym (c.replace.ensures.value ∙ c.index_mut.ensures.value)))
