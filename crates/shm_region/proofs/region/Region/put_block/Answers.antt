use Rattle.std.proofs.Common.{◌≡◌, ◌∙◌, ap, sym, arith, length, Some, ◌*◌}
use Rattle.std.proofs.Math.ListN.{length-set}
use Rattle.region_model.specs.Regions.{size_of}
use Rattle.shm_region.proofs.Sized.{with_blocks}
use Rattle.shm_region.proofs.region.Region.put_block.Goals as goal
use Rattle.region_model.proofs.Areas.{sized-set}

pub invariant_of-self : goal.invariant_of-self
invariant_of-self c =
    let xs = c.self.inside.blocks.items in
    let size : length c.args.bytes ≡ 4096 * c.self.inside.pages = c.requires.size ∙ ap (λ r. size_of r) (sym c.self.view_is) in
    with_blocks c.self.inside.front.items xs _ c.self.inside.pages c.self.invariant
    (omega (arith, length-set xs c.args.block (Some c.args.bytes), c.self.invariant.count))
    (sized-set (4096 * c.self.inside.pages) xs c.args.block (Some c.args.bytes) (size, tt) c.self.invariant.sized)
