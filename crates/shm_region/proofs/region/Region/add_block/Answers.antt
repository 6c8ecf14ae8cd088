use Rattle.std.proofs.Common.{◌≡◌, ◌∙◌, ap, arith, length, ◌*◌}
use Rattle.tcmu_types.proofs.ByteFields.{length-zeros}
use Rattle.region_model.specs.Regions.{RegionState}
use Rattle.shm_region.proofs.Sized.{sized-cond, length-cond, with_blocks}
use Rattle.shm_region.proofs.region.Region.add_block.Goals as goal

pub invariant_of-self : goal.invariant_of-self
invariant_of-self c =
    let xs = c.self.inside.blocks.items in
    let same : length xs ≡ length c.args.self.now.blocks = ap (λ (r : RegionState). length r.blocks) c.self.view_is in
    rw c.append.ensures
    (with_blocks c.self.inside.front.items xs _ c.self.inside.pages c.self.invariant
    (length-cond _ c.in_ok-block.block xs (omega (arith, c.requires)))
    (sized-cond (4096 * c.self.inside.pages) _ c.in_ok-block.block xs (ap length c.in_ok-block.ensures ∙ length-zeros (4096 * c.self.inside.pages)) c.self.invariant.sized))
