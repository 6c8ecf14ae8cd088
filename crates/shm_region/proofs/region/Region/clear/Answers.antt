use Rattle.std.proofs.Common.{◌≡◌, ◌∙◌, ap, sym, length}
use Rattle.std.specs.Prelude.{slice_get}
use Rattle.tcmu_types.proofs.ByteFields.{length-zeros}
use Rattle.region_model.specs.Regions.{size_of, RegionState}
use Rattle.shm_region.proofs.Lent.{home_some}
use Rattle.shm_region.proofs.Sized.{clear_is}
use Rattle.shm_region.proofs.region.Region.clear.Goals as goal

pub put_block-requires-clause-size : goal.put_block-requires-clause-size
put_block-requires-clause-size c =
    let size : length c.in-Some.bytes ≡ size_of c.args.self.now = c.in-Some.ensures.size in
    ap length c.clear.ensures ∙ length-zeros (length c.in-Some.bytes) ∙ size ∙ sym (ap (λ (r : RegionState). size_of r) c.take_home.ensures.region)

pub returns-in-Some : goal.returns-in-Some
returns-in-Some c =
    clear_is c.args.self.now c.take_home.new.self c.put_block.new.self c.args.block c.in-Some.bytes c.clear.new.self
    c.take_home.ensures.region c.put_block.ensures.region (home_some (slice_get c.args.self.now.blocks c.args.block) c.in-Some.bytes (sym c.in-Some.ensures.block)) c.clear.ensures c.in-Some.ensures.size
